use Rattle.std.proofs.Common.{◌≢◌, rules}
use Rattle.std.specs.Prelude.{codes}
use Rattle.call_script.proofs.Sizes.{dims_found, dims_missing}
use Rattle.call_script.proofs.dims.read_dims.Goals as goal

pub returns-clause-found : goal.returns-clause-found
returns-clause-found c = dims_found _ _ _ c.new.ensures c.read_sizes.ensures.found

pub returns-clause-none : goal.returns-clause-none
returns-clause-none c = λ is dims h.
    let other : c.args.token.now ≢ codes "-" = search rules in
    dims_missing _ _ c.new.ensures other (c.read_sizes.ensures.none is) dims h

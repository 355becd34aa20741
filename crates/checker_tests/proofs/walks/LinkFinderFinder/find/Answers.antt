use Rattle.adf_model.proofs.Answering.AskLaws.{asks_none}
use Rattle.checker_tests.proofs.LinkLaws.{links_found, links_cause}
use Rattle.checker_tests.proofs.walks.LinkFinderFinder.find.Goals as goal

pub returns-clause-only : goal.returns-clause-only
returns-clause-only g c = asks_none _ _

pub returns-clause-found : goal.returns-clause-found
returns-clause-found g c told = links_found (g.C.TreeCalls.files c.args._calls.now) c.args.seen.now c.link_numbers.result c.link_numbers.ensures.numbers c.link_numbers.ensures.want

pub returns-clause-cause : goal.returns-clause-cause
returns-clause-cause g c = links_cause _ _ _ c.link_numbers.result c.link_numbers.ensures.want

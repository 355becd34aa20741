use Rattle.call_script.proofs.Pieces.{left_split, left_whole}
use Rattle.call_script.proofs.tokens.Tokens.next.Goals as goal

pub returns-in-Some : goal.returns-in-Some
returns-in-Some c = left_split c.args.self.now.between c.args.self.now.rest c.in_ok-rest.rest c.in-Some.token.now c.in-Some.after.now c.in_ok-rest.was c.in-Some.ensures.0 c.in-Some.ensures.1

pub returns-in-None : goal.returns-in-None
returns-in-None c = left_whole c.args.self.now.between c.args.self.now.rest c.in_ok-rest.rest c.in_ok-rest.was c.in-None.ensures

use Rattle.std.proofs.Common.{[], None}
use Rattle.seal_text.proofs.ReadingFacts.{key_unmade, reading_memory}
use Rattle.seal_text.proofs.ServeFacts.{lists_of, names_members}
use Rattle.seal_text.proofs.serve.early_text.Goals as goal

pub text_of_docket-requires : goal.text_of_docket-requires
text_of_docket-requires g c = names_members _ c.args.docket.now [] _ _ _ c.in-Ok.ensures.read c.in-Ok.ensures.given

pub returns-in-Err-names_of-clause-fault : goal.returns-in-Err-names_of-clause-fault
returns-in-Err-names_of-clause-fault g c = key_unmade c.args.text_kind c.args.docket.now None _ _ c.in-Err-names_of.fault c.in-Ok.ensures.read.docket_is c.in-Err-names_of.ensures.fault

pub returns-clause-fault : goal.returns-clause-fault
returns-clause-fault g c = reading_memory c.args.docket.now [] []

use Rattle.std.proofs.lemmas.Result.{IfErr-weaker, IfOk-weaker}
use Rattle.seal_text.proofs.ReadingFacts.{case_unmade}
use Rattle.seal_text.proofs.ServeFacts.{has_sheet, lists_of, names_members}
use Rattle.seal_text.specs.Serving.{draft_in}
use Rattle.seal_text.proofs.serve.full_text.Goals as goal

pub allowed_text-requires : goal.allowed_text-requires
allowed_text-requires g c = record {
  sheet = has_sheet _ c.in-Ok.ensures.case.has_sheet (rw c.docket.ensures at c.instance-instance.ensures.whole);
  lists = names_members _ c.args.docket.now c.args.sheet.now _ _ _ c.in-Ok.ensures.case.read c.in-Ok.ensures.given;
}

pub returns-clause-text : goal.returns-clause-text
returns-clause-text g c = IfOk-weaker c.allowed_text.result _ _ (λ text made. record {
  c = _;
  read = c.in-Ok.ensures.case;
  made = made (draft_in c.args.docket.now c.args.sheet.now) (lists_of _ c.args.docket.now c.args.sheet.now _ _ _ c.in-Ok.ensures.case.read c.in-Ok.ensures.given);
}) c.allowed_text.ensures.text

pub returns-clause-fault : goal.returns-clause-fault
returns-clause-fault g c = IfErr-weaker c.allowed_text.result _ _ (λ fault h. case_unmade c.args.text_kind c.args.docket.now c.args.sheet.now _ _ fault c.in-Ok.ensures.case h) c.allowed_text.ensures.fault

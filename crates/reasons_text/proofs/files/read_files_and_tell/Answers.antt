use Rattle.std.proofs.Common.{inl, inr, refl}
use Rattle.std.proofs.lemmas.Result.{IfErr-weaker, IfOk-weaker}
use Rattle.docket.specs.declared.part.Part.TheVariants as part
use Rattle.docket.specs.declared.fault.DocketFault.TheVariants as docket
use Rattle.docket.specs.declared.records_fault.RecordsFault.TheVariants as records
use Rattle.reasons_text.proofs.files.read_files_and_tell.Goals as goal

pub returns-clause-text : goal.returns-clause-text
returns-clause-text g c =
    IfOk-weaker c.text_of.result _ _
    (λ text h. record { case = c.in_ok-case.case; read = record { read = c.in_ok-case.ensures.read; has_sheet = c.in_ok-case.ensures.sheet }; answers = h }) c.text_of.ensures.text

pub returns-clause-fault : goal.returns-clause-fault
returns-clause-fault g c =
    IfErr-weaker c.text_of.result _ _
    (λ fault h. inr (c.in_ok-case.case, (record { read = c.in_ok-case.ensures.read; has_sheet = c.in_ok-case.ensures.sheet }, h))) c.text_of.ensures.fault

pub returns-in_default-clause-fault : goal.returns-in_default-clause-fault
returns-in_default-clause-fault g c =
    inl (inr (inl (record { first = record { file = part.Docket; fault = records.Docket (docket.Read 1) }; is_first = inl (inr (1, refl)); is_told = refl })))

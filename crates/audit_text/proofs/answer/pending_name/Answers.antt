use Rattle.std.proofs.Common.{inl, inr}
use Rattle.audit_text.proofs.answer.pending_name.Goals as goal

pub returns-in-Answers : goal.returns-in-Answers
returns-in-Answers c =
    let name = c.programme_name.ensures in
    elim c.in-Answers.is [ inl e ↦ rw e name | inr e ↦ rw e name ]

pub returns-in-Offers : goal.returns-in-Offers
returns-in-Offers c =
    let name = c.resident_name.ensures in
    elim c.in-Offers.is [ inl e ↦ rw e name | inr e ↦ rw e name ]

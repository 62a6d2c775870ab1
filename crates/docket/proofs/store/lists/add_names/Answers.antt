use Rattle.std.proofs.Common.{◌-◌, take, drop, sym, ◌∙◌, arith, refl}
use Rattle.csv.specs.Records.{fields_of}
use Rattle.csv.proofs.RecordFacts.{field-there}
use Rattle.docket_names.proofs.TextFacts.{starts_more}
use Rattle.docket.proofs.ListWalkFacts.{walked_none, walked_more, walked_grown, name_missing, names_more}
use Rattle.docket.proofs.store.lists.add_names.Goals as goal
use Rattle.docket.proofs.store.lists.add_names.Goals.{in-Some+in_ok-add_name+else-not-branch, in_default}
use Rattle.docket.proofs.ListCountFacts.{part_more}

pub loop-field_index-init : goal.loop-field_index-init
loop-field_index-init c = (walked_none c.args.name_texts.now c.args.name_numbers.now.items c.args.new_names.now, omega arith, refl)

pub returns-in_err-add_name-clause-texts : goal.returns-in_err-add_name-clause-texts
returns-in_err-add_name-clause-texts c =
    starts_more c.args.name_texts.now c.loop-field_index.name_texts c.add_name.new.name_texts (walked_grown _ _ _ _ _ _ _ c.loop-field_index.invariant.0).0 c.in_err-add_name.ensures.texts

pub returns-then-not-branch-clause-named : goal.returns-then-not-branch-clause-named
returns-then-not-branch-clause-named c =
    sym (name_missing (fields_of c.args.row.now) c.loop-field_index.field_index c.in-Some.text.now c.loop-field_index.invariant.1 (omega arith) (sym c.in-Some.ensures.value) (sym c.in_ok-add_name.ensures.named ∙ c.if-not-branch.true))

pub returns-then-not-branch-clause-texts : goal.returns-then-not-branch-clause-texts
returns-then-not-branch-clause-texts c =
    starts_more c.args.name_texts.now c.loop-field_index.name_texts c.add_name.new.name_texts (walked_grown _ _ _ _ _ _ _ c.loop-field_index.invariant.0).0 c.in_ok-add_name.ensures.texts

pub loop-field_index-preserved : goal.loop-field_index-preserved
loop-field_index-preserved c = elim c.match-get.branch [
  | in-Some+in_ok-add_name+else-not-branch w ↦ (
    rw (w.name_texts-is, w.name_numbers-is, w.new_names-is, ← part_more (fields_of c.args.row.now) 2 c.loop-field_index.field_index w.in-Some.text.now c.loop-field_index.invariant.1 (omega arith) (sym w.in-Some.ensures.value))
        (walked_more _ _ _ _ _ _ _ _ _ (take (c.loop-field_index.field_index - 2) (drop 2 (fields_of c.args.row.now))) w.in-Some.text.now c.loop-field_index.invariant.0 (w.in_ok-add_name.ensures.walked w.if-not-branch.false)),
    omega (arith, c.loop-field_index.invariant.1),
    names_more (fields_of c.args.row.now) c.loop-field_index.field_index w.in-Some.text.now c.loop-field_index.invariant.1 (omega arith) (sym w.in-Some.ensures.value) c.loop-field_index.invariant.2 (sym w.in_ok-add_name.ensures.named ∙ w.if-not-branch.false),
  )
  | in_default w ↦ absurd (field-there (fields_of c.args.row.now) c.loop-field_index.field_index (omega arith) (sym w.in_default.ensures.value))
]

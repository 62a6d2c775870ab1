-- The loop of the second pass over the entries of the store.
use Rattle.std.proofs.Common.{◌≡◌, ◌≤◌, ◌<◌, ◌+◌, ℕ, zero, suc, List, [], ◌∷◌, ◌++◌, length, take, drop, map, sym, ◌∙◌, refl, ap, arith, Some, None, append_assoc}
use Rattle.std.specs.Prelude.{slice_get}
use Rattle.std.specs.List.{All}
use Rattle.std.proofs.lemmas.List.Elements.{All-head, All-tail}
use Rattle.match_model.specs.Draft.{Draft}
use Rattle.records.specs.Reading.{Fields}
use Rattle.docket.specs.Known.{AreKnown}
use Rattle.docket.specs.ListPass.{IsNext}
use Rattle.docket.specs.Lists.{KeptEntry, IsWithin, named}
use Rattle.docket.specs.Passes.{first_from, ranking_fault}
use Rattle.docket.specs.Ranking.{IsRanked}
use Rattle.docket.specs.Rows.{row_at}
use Rattle.docket.proofs.PassFacts.{pass_more}
use Rattle.docket.proofs.ListLeftFacts.{AreLeft, amid, next_left, none_left}

-- the builder has what the rows that the pass has gone over say, and `left` has the entries of the
-- remaining rows
pub record IsAt (texts : Fields) (rows : List Fields) (builder : Draft) (left : List KeptEntry) : Type 0 where
  pub done : List Fields
  pub rest : List Fields
  pub all : rows ≡ done ++ rest
  pub ranked : IsRanked builder rows done
  pub none : first_from (ranking_fault rows) [] done ≡ None
  pub within : All (IsWithin texts) left
  pub enough : AreLeft rows done rest (map (named texts) left)

pub record NextAt (texts : Fields) (programmes residents : List ℕ) (builder : Draft) (rows : List Fields) (entry : KeptEntry) (more : List KeptEntry) : Type 0 where
  pub k : ℕ
  pub next : IsNext texts programmes residents builder rows k entry
  pub none : first_from (ranking_fault rows) [] (take k rows) ≡ None
  pub after : (b : Draft) → IsRanked b rows (take (k + 1) rows) → ranking_fault rows (take k rows) (row_at rows k) ≡ None → IsAt texts rows b more

pub next_at : (texts : Fields) (programmes residents : List ℕ) (builder : Draft) (rows : List Fields) (entry : KeptEntry) (more : List KeptEntry) → AreKnown texts programmes residents rows
    → IsAt texts rows builder (entry ∷ more) → NextAt texts programmes residents builder rows entry more
next_at texts programmes residents builder rows entry more known h =
    let n = next_left builder rows h.done h.rest (named texts entry) (map (named texts) more) h.all h.ranked h.none h.enough in
    let a = amid rows n.done n.rest n.row n.split in
    record {
      k = length n.done;
      next = record {
        known = known;
        within = All-head (IsWithin texts) entry more h.within;
        there = a.there;
        record_no = n.record_no;
        ranked = rw a.before n.ranked;
        shown = rw a.here n.shown;
      };
      none = rw a.before n.none;
      after = λ b ranked fine.
          let clean = rw a.past at (pass_more (ranking_fault rows) rows (length n.done) a.there (rw a.before n.none) fine) in
          record {
            done = n.done ++ n.row ∷ [];
            rest = n.rest;
            all = n.split ∙ sym (append_assoc n.done (n.row ∷ []) n.rest);
            ranked = rw a.past at ranked;
            none = clean;
            within = All-tail (IsWithin texts) entry more h.within;
            enough = n.after clean;
          };
    }

-- if no entry is left, the second pass has gone over all rows and found no fault
pub all_done : (texts : Fields) (rows : List Fields) (builder : Draft) → IsAt texts rows builder [] → IsRanked builder rows rows × (first_from (ranking_fault rows) [] rows ≡ None)
all_done texts rows builder h = none_left builder rows h.done h.rest h.all h.ranked h.none h.enough

-- there is an entry at place j, and the entries from place j on are this entry and the entries
-- after it
pub record HasSplit (entries : List KeptEntry) (j : ℕ) : Type 0 where
  pub entry : KeptEntry
  pub at : slice_get entries j ≡ Some entry
  pub split : drop j entries ≡ entry ∷ drop (j + 1) entries

pub entries_split : (entries : List KeptEntry) (j : ℕ) → j < length entries → HasSplit entries j
entries_split [] j lt = absurd (omega (arith, lt))
entries_split (e ∷ entries) zero lt = record { entry = e; at = refl; split = refl }
entries_split (e ∷ entries) (suc j) lt =
    let rest = entries_split entries j (omega (arith, lt)) in
    let same : suc j + 1 ≡ suc (j + 1) = omega arith in
    record { entry = rest.entry; at = rest.at; split = rest.split ∙ ap (λ (n : ℕ). rest.entry ∷ drop n (e ∷ entries)) (sym same) }

pub no_more : (entries : List KeptEntry) (j : ℕ) → length entries ≤ j → drop j entries ≡ []
no_more [] zero le = refl
no_more [] (suc j) le = refl
no_more (e ∷ entries) zero le = absurd (omega (arith, le))
no_more (e ∷ entries) (suc j) le = no_more entries j (omega (arith, le))

-- What a resident's desk keeps, and which answers the desk owes.
use Rattle.std.specs.Prelude.{◌≡◌, ℕ, ◌-◌, ◌≤◌, Bool, true, false, not, nat_lt, ◌&&◌, if◌then◌else◌, Option, Some, None, List, [], ◌∷◌, ◌++◌, length, take, drop}
use Rattle.match_model.specs.Ranking.{place}
use Rattle.match_model.specs.Instance.{Instance, IsResident, list_of_resident}
use Rattle.exchange_core.specs.declared.event.AnswerKind.TheVariants.{Hold, Decline}
use Rattle.exchange_core.specs.Mail.{Answered}
use Rattle.exchange_core.specs.Calls.{calls, best_of, release_of}
use Rattle.exchange_core.specs.Refusal.{is_nil}
use Rattle.match_agents.specs.Desks.{ResidentDesk}

-- the second list ends with the first one
abbrev pub IsSuffix : {X : Type 0} → List X → List X → Type 0
IsSuffix xs ys = drop (length ys - length xs) ys ≡ xs

-- the list without its last item
abbrev pub without_last : {X : Type 0} → List X → List X
without_last xs = take (length xs - 1) xs

-- the answers due are those to the last of these offers, which come after the answers to the offers before it
abbrev pub IsCalledByLast : List ℕ → List ℕ → List Answered → Type 0
IsCalledByLast ranking offers due = calls ranking offers ≡ calls ranking (without_last offers) ++ due

-- the list of the answers due: a first answer, and then a release if a programme is to be released
abbrev pub due_list : Option Answered → Option ℕ → List Answered
due_list None release = []
due_list (Some answer) release = answer ∷ release_of release

-- the programme with its position in the ranking, if there is a programme
abbrev pub with_place : List ℕ → Option ℕ → Option (ℕ × ℕ)
with_place ranking None = None
with_place ranking (Some p) = Some (p, place ranking p)

-- the programme of a pair of a programme and its position, if there is a pair
abbrev pub programme_in : Option (ℕ × ℕ) → Option ℕ
programme_in None = None
programme_in (Some (p, place)) = Some p

-- the position of an offer, if there is one and it is before the best offer's, or if there is no best offer; else
-- none
abbrev pub better_place : Option ℕ → Option (ℕ × ℕ) → Option ℕ
better_place None best = None
better_place (Some place) None = Some place
better_place (Some place) (Some (p, best)) = if nat_lt place best then Some place else None

-- The answers to an offer by p. If there is a position, the offer is better than the best offer so far: it gets
-- `hold`, and the best offer so far gets `release`. Else it gets `decline`.
abbrev pub called_for : ℕ → Option ℕ → Option (ℕ × ℕ) → List Answered
called_for p None best = (p, Decline) ∷ []
called_for p (Some place) best = (p, Hold) ∷ release_of (programme_in best)

-- the best offer after p's offer is decided: p's offer if there is a position, else the best offer
-- so far
abbrev pub best_with : ℕ → Option ℕ → Option (ℕ × ℕ) → Option (ℕ × ℕ)
best_with p None best = best
best_with p (Some place) best = Some (p, place)

module _ {T : Type 0} where
  -- r's desk with this receiving end, before the desk took an offer or owed an answer
  abbrev pub opened_resident : Instance → ℕ → T → ResidentDesk T
  opened_resident inst r end = record {
    resident = r;
    end = end;
    taken = [];
    room = length (list_of_resident inst r);
    undecided = false;
    due = [];
    best = None;
  }

  -- whether every taken offer is decided and no answer is due
  abbrev pub is_ready : ResidentDesk T → Bool
  is_ready desk = not desk.undecided && is_nil desk.due

  -- the desk after it took one more offer, which is still undecided; its receiving end is now this one
  abbrev pub took_offer : ResidentDesk T → T → ℕ → ResidentDesk T
  took_offer desk end p = record desk { end = end; taken = desk.taken ++ p ∷ []; undecided = true }

  -- the desk after its last taken offer, which p made, was decided: the position is none if the offer isn't better
  -- than the best so far
  abbrev pub decided_offer : ResidentDesk T → ℕ → Option ℕ → ResidentDesk T
  decided_offer desk p place = record desk { undecided = false; due = called_for p place desk.best; best = best_with p place desk.best }

  -- the desk after it gave the first answer due
  abbrev pub gave_answer : ResidentDesk T → ResidentDesk T
  gave_answer desk = record desk { due = drop 1 desk.due }

  -- the offers taken and decided: all taken offers, except an undecided last one
  abbrev pub decided : ResidentDesk T → List ℕ
  decided desk = if desk.undecided then without_last desk.taken else desk.taken

  -- The desk is that of a resident of the instance, with room for all offers that can ever come. Its best offer is
  -- the best of the decided offers. It owes the last answers that the decided offers call for, at most two.
  pub record IsResidentAgentOf (inst : Instance) (desk : ResidentDesk T) : Type 0 where
    pub member : IsResident inst desk.resident
    pub room_for_all : desk.room ≡ length (list_of_resident inst desk.resident)
    pub log_within : length desk.taken ≤ desk.room
    pub best_kept : desk.best ≡ with_place (list_of_resident inst desk.resident) (best_of (list_of_resident inst desk.resident) (decided desk))
    pub owes_the_last : IsSuffix desk.due (calls (list_of_resident inst desk.resident) (decided desk))
    pub few_due : length desk.due ≤ 2

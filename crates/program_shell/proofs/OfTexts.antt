-- The words of a command line give the same order as their texts.
use Rattle.std.proofs.Common.{◌≡◌, sym, refl, inl, inr, List, ℕ, Option, Result, Ok, map, string_bytes}
use Rattle.std.specs.Prelude.{String}
use Rattle.std.specs.Global.{Vec}
use Rattle.clap.specs.Words.{Text}
use Rattle.program_shell.specs.Ends.{EndsAs, IsRefusedStatus}
use Rattle.program_shell.specs.declared.fault.LineFault.{LineFault}
use Rattle.program_shell.specs.declared.fault.UsageFault.TheVariants.{Line}

-- these texts were read, and they are the texts of the words
module _ {A E O : Type 0} (Refuses : List Text → LineFault → Type 0) (Orders : List Text → O → Type 0) (Serves : O → Type 0)
    (words : Result (Vec (String A)) E) (texts : Vec (String A)) (read : List (String A)) (is : words ≡ Ok texts) (lent : read ≡ texts.items)
    (old : Option (List ℕ)) (status : ℕ) where
  -- the texts give an order, and the program served this order
  pub ends_served : (new : Option (List ℕ)) (order : O) → Orders (map string_bytes read) order → Serves order
      → EndsAs Refuses Orders Serves words old new status
  ends_served new order given served = inr (order, (rw is (rw (sym lent) given), served))

  -- the texts give no order, and the program told why
  pub ends_refused : (fault : LineFault) → Refuses (map string_bytes read) fault → IsRefusedStatus (Line fault) status
      → EndsAs Refuses Orders Serves words old old status
  ends_refused fault given told = inl (record { fault = Line fault; refused = rw is (rw (sym lent) given); nothing = refl; tells = told })

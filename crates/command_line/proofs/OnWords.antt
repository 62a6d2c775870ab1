-- Examples of the definitions: the command and the options that some words give.
use Rattle.std.proofs.Common.{◌≡◌, refl, codes, List, [], ◌∷◌, Option, Some, option_map}
use Rattle.clap.specs.Words.{Text, first_of, one_of, subcommand_of}
use Rattle.clap.proofs.OnLiterals.{clap_on_literals}
use Rattle.command_line.specs.Line.{commands_app}

-- the command that the words name, and the values of its options
abbrev values_of : List Text → Option (Text × (Option Text × (Option Text × (Option Text × Option Text))))
values_of words = option_map (λ found. (
  found.0,
  (
    one_of (codes "workers") found.1,
    (
      first_of (codes "capacity") found.1,
      (one_of (codes "journal") found.1, one_of (codes "journal-by-worker") found.1),
    ),
  ),
)) (subcommand_of commands_app words)

given : values_of (codes "match" ∷ codes "--workers" ∷ codes "3" ∷ codes "--journal-by-worker" ∷ codes "--capacity=1" ∷ [])
    ≡ Some (codes "match", (Some (codes "3"), (Some (codes "1"), (Some (codes "false"), Some (codes "true")))))
unfolding clap_on_literals
given = refl

replayed : option_map (λ found. found.0) (subcommand_of commands_app (codes "replay" ∷ [])) ≡ Some (codes "replay")
unfolding clap_on_literals
replayed = refl

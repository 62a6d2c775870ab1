use Rattle.std.proofs.Common.{◌≡◌, true, map, refl, subst}
use Rattle.std.proofs.lemmas.Result.{IfOk-weaker}
use Rattle.clap.specs.Words.{App, HasMatchesOf, is_simple}
use Rattle.audit_files.specs.Line.{audit_app}
use Rattle.audit_files.proofs.line.matches_of.Goals as goal

simple : is_simple audit_app ≡ true
simple = refl

pub returns-clause-found : goal.returns-clause-found
returns-clause-found g c =
    IfOk-weaker c.try_get_matches_from_mut.result _ _
    (λ matches h. (subst (λ (a : App). HasMatchesOf a (map g.S.AsStr.text c.args.words.now) matches) c.requires h.2 simple).0) c.try_get_matches_from_mut.ensures.ok

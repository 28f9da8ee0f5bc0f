use Rattle.std.proofs.Common.{◌≡◌, ℕ, List, [], ◌∷◌, ◌++◌, Option, ap, subst, ◌∙◌, le_trans}
use Rattle.std.specs.Option.{option_map}
use Rattle.handover.specs.Changes.{IsFirstChange}
use Rattle.handover.proofs.TellLemmas.{dishonest}
use Rattle.handover.proofs.step.through.Goals as goal

pub returns-in-Some : goal.returns-in-Some
returns-in-Some g c =
    let old = c.args.vault.now in
    let mid = c.put.new.self in
    let first : IsFirstChange c.args.image.now c.in-Ok.got c.in-Some.change =
    subst (λ (string : List ℕ). IsFirstChange c.args.image.now string c.in-Some.change) c.as_slice.ensures c.in-Some.ensures in
    record {
      later = record { counts = le_trans c.in_default.ensures.counts c.in-Ok.ensures.counts; honest = c.in-Ok.ensures.stays_honest ∙ c.in_default.ensures.stays_honest };
      dishonest =
          dishonest c.args.image.now c.in-Ok.got c.in-Some.change (g.V.Vault.honest old) (g.V.Vault.honest mid) (g.V.Vault.puts old) (g.V.Vault.puts mid) (g.V.Vault.gets old) first
          (g.met.V.Vault.tells old) c.in_default.ensures.ok c.in_default.ensures.stays_honest c.in-Ok.ensures.last;
      string = c.in-Ok.got;
      put = c.in-Ok.ensures.keeps_all ∙ c.in_default.ensures.ok;
      got = c.in-Ok.ensures.ok ∙ ap (λ (told : Option (List (List ℕ))). option_map (λ strings. strings ++ c.in-Ok.got ∷ []) told) c.in_default.ensures.gives_nothing;
      first = first;
    }

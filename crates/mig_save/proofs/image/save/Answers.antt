use Rattle.std.proofs.Common.{◌≡◌, List, ℕ, IfOk, sym, subst}
use Rattle.kept_model.specs.Sound.{IsSound}
use Rattle.kept_model.specs.Images.{image}
use Rattle.store_parts.specs.Kept.{Kept}
use Rattle.store_parts.specs.States.{state_of}
use Rattle.mig_save.proofs.image.save.Goals as goal

pub image_of-requires : goal.image_of-requires
image_of-requires c =
    let ins = c.args.ins.now.entries in
    record { sound = subst (λ (k : Kept). IsSound (state_of k ins)) (sym c.parts-parts.ensures) (c.is_sound.ensures.state ins c.requires.inboxes) }

pub returns : goal.returns
returns c =
    subst (λ (k : Kept). IfOk c.image_of.result (λ (bytes : List ℕ). bytes ≡ image (state_of k c.args.ins.now.entries))) c.parts-parts.ensures c.image_of.ensures

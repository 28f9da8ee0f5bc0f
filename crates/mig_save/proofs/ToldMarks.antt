-- The node that a mark's record tells fits its field.
use Rattle.std.proofs.Common.{◌≡◌, [], ◌∷◌, Option, Some, None, sym, refl, subst}
use Rattle.std.specs.Prelude.{drop, slice_get}
use Rattle.std.specs.Option.{option_map}
use Rattle.xs_model.specs.Paths.{Path, path_cmp}
use Rattle.xs_model.specs.Trees.{Node, Tree, node_at}
use Rattle.xs_model.proofs.Maps.{from_Some, not_Some, all_found}
use Rattle.machine_model.proofs.Lists.{all_weaker}
use Rattle.mark_model.specs.Marks.{Mark, Seen, Changed, Wrote, Gone, Kept, Marks}
use Rattle.kept_model.specs.Sound.{IsSpelled, NodeFits, FoundFits, MarkFits, NodesFit, MarksFit}
use Rattle.txn_access.specs.Entries.{Entry, entry_of}
use Rattle.mig_save.specs.Told.{ToldFits}

fits_there : (tree : Tree) → NodesFit tree → (p : Path) (o : Option Node) → node_at tree p ≡ o → FoundFits o
fits_there tree h p None e = tt
fits_there tree h p (Some node) e = all_found path_cmp NodeFits p tree node (all_weaker (λ f. IsSpelled f.0 × NodeFits f.1) (λ f. NodeFits f.1) (λ f g. g.1) tree h) e

mark_fits : (tree : Tree) → NodesFit tree → (p : Path) (mark : Mark) → MarkFits mark → ToldFits tree (entry_of (p, mark))
mark_fits tree nodes p Seen fits = fits_there tree nodes p (node_at tree p) refl
mark_fits tree nodes p (Changed old) fits = fits
mark_fits tree nodes p (Wrote others node) fits = fits
mark_fits tree nodes p (Gone others) fits = tt
mark_fits tree nodes p (Kept old) fits = fits

pub first_fits : (tree : Tree) (left : Marks) (told : Entry) → NodesFit tree → MarksFit left → Some told ≡ option_map entry_of (slice_get left 0) → ToldFits tree told
first_fits tree [] told nodes fit is = not_Some (sym is)
first_fits tree (e ∷ left) told nodes fit is = subst (ToldFits tree) (sym (from_Some is)) (mark_fits tree nodes e.0 e.1 fit.0.1)

pub fit_behind : (left : Marks) → MarksFit left → MarksFit (drop 1 left)
fit_behind [] fit = tt
fit_behind (e ∷ left) fit = fit.1

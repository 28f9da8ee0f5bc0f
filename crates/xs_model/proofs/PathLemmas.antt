-- Equal paths, sets of paths, and the paths below a path.
use Rattle.std.specs.Prelude.{◌≡◌, true, false, cond, ◌||◌, List, [], ◌∷◌, ◌++◌, Option, Some, None, is_some}
use Rattle.std.specs.Cmp.{IsTotalOrder, eq_by_cmp_equiv, Equal-is}
use Rattle.std.specs.Cmp.Lexicographic.{lists_total, nat_list_cmp_total}
use Rattle.std.specs.FinMap.{IsAntisymmetric, slice_cmp-IsAntisymmetric, nat_cmp-IsAntisymmetric}
use Rattle.std.proofs.Common.{sym, refl, ap, subst, ◌∙◌, append_assoc, append-nil}
use Rattle.std.proofs.lemmas.Bool.{or_cases, or_left, or_right}
use Rattle.std.specs.Prelude.{◌⊎◌}
use Rattle.xs_model.specs.Paths.{Name, Path, name_cmp, path_cmp, same_name, same_path, has_path, child, names_below, is_below}
use Rattle.xs_model.specs.Trees.{only_name, child_name}
use Rattle.xs_model.proofs.Maps.{not_both, from_Some, not_Some}

pub name_total : IsTotalOrder name_cmp
name_total = nat_list_cmp_total

pub name_exact : IsAntisymmetric name_cmp
name_exact = slice_cmp-IsAntisymmetric nat_cmp-IsAntisymmetric

pub path_total : IsTotalOrder path_cmp
path_total = lists_total nat_list_cmp_total

pub path_exact : IsAntisymmetric path_cmp
path_exact = slice_cmp-IsAntisymmetric name_exact

-- EQUAL NAMES AND PATHS
pub same_name-is : (m n : Name) → same_name m n ≡ true → m ≡ n
same_name-is m n e = name_exact m n ((Equal-is (name_cmp m n)).0 e)

pub same_name-itself : (n : Name) → same_name n n ≡ true
same_name-itself n = (eq_by_cmp_equiv name_total).refl n

pub same_path-is : (p q : Path) → same_path p q ≡ true → p ≡ q
same_path-is p q e = path_exact p q ((Equal-is (path_cmp p q)).0 e)

pub same_path-itself : (p : Path) → same_path p p ≡ true
same_path-itself p = (eq_by_cmp_equiv path_total).refl p

pub same_path-turned : (p q : Path) → same_path p q ≡ same_path q p
same_path-turned p q = (eq_by_cmp_equiv path_total).symm p q

-- SETS OF PATHS
pub has_path-append : (p : Path) (ps qs : List Path) → has_path p (ps ++ qs) ≡ (has_path p ps || has_path p qs)
has_path-append p [] qs = refl
has_path-append p (q ∷ ps) qs =
    elim (same_path p q) as (λ b. (b || has_path p (ps ++ qs)) ≡ ((b || has_path p ps) || has_path p qs)) [
      | true ↦ refl
      | false ↦ has_path-append p ps qs
    ]

pub has_path-left : (p : Path) (ps qs : List Path) → has_path p ps ≡ true → has_path p (ps ++ qs) ≡ true
has_path-left p ps qs h = has_path-append p ps qs ∙ or_left _ _ h

pub has_path-right : (p : Path) (ps qs : List Path) → has_path p qs ≡ true → has_path p (ps ++ qs) ≡ true
has_path-right p ps qs h = has_path-append p ps qs ∙ or_right _ _ h

pub has_path-cases : (p : Path) (ps qs : List Path) → has_path p (ps ++ qs) ≡ true → (has_path p ps ≡ true) ⊎ (has_path p qs ≡ true)
has_path-cases p ps qs h = or_cases _ _ (sym (has_path-append p ps qs) ∙ h)

pub has_path-here : (p : Path) (ps : List Path) → has_path p (p ∷ ps) ≡ true
has_path-here p ps = or_left _ _ (same_path-itself p)

-- BELOW
pub below-append : (p : Path) (ns : List Name) → names_below p (p ++ ns) ≡ Some ns
below-append [] ns = refl
below-append (m ∷ p) ns = ap (λ b. cond b (names_below p (p ++ ns)) None) (same_name-itself m) ∙ below-append p ns

pub below_is : (p q : Path) (ns : List Name) → names_below p q ≡ Some ns → q ≡ p ++ ns
below_is [] q ns e = from_Some e
below_is (m ∷ p) [] ns e = not_Some e
below_is (m ∷ p) (n ∷ q) ns e =
    elim (same_name m n) as (λ b. same_name m n ≡ b → cond b (names_below p q) None ≡ Some ns → n ∷ q ≡ m ∷ (p ++ ns)) [
      | true ↦ λ t g i. sym (same_name-is m n t) i ∷ below_is p q ns g i
      | false ↦ λ t g. not_Some g
    ] refl e

pub child_name-child : (p : Path) (n : Name) → child_name p (child p n) ≡ Some n
child_name-child p n = ap only_name (below-append p (n ∷ []))

only_is : (ns : List Name) (n : Name) → only_name (Some ns) ≡ Some n → ns ≡ n ∷ []
only_is [] n e = not_Some e
only_is (m ∷ []) n e = ap (λ x. x ∷ []) (from_Some e)
only_is (m ∷ k ∷ ns) n e = not_Some e

child_by : (p q : Path) (n : Name) (o : Option (List Name)) → names_below p q ≡ o → only_name o ≡ Some n → q ≡ child p n
child_by p q n None b e = not_Some e
child_by p q n (Some ns) b e = below_is p q ns b ∙ ap (λ ms. p ++ ms) (only_is ns n e)

pub child_name-is : (p q : Path) (n : Name) → child_name p q ≡ Some n → q ≡ child p n
child_name-is p q n e = child_by p q n (names_below p q) refl e

pub child-way : (p : Path) (n : Name) (ns : List Name) → child p n ++ ns ≡ p ++ (n ∷ ns)
child-way p n ns = append_assoc p (n ∷ []) ns

below_by : (p q : Path) (n : Name) (o : Option (List Name)) → names_below p q ≡ o → is_some o ≡ true → is_below p (child q n) ≡ true
below_by p q n None b e = not_both e refl
below_by p q n (Some ns) b e = ap is_some (ap (λ r. names_below p (child r n)) (below_is p q ns b) ∙ ap (names_below p) (append_assoc p ns (n ∷ [])) ∙ below-append p (ns ++ n ∷ []))

-- a child of a path at or below p is below p
pub is_below-child : (p q : Path) (n : Name) → is_below p q ≡ true → is_below p (child q n) ≡ true
is_below-child p q n h = below_by p q n (names_below p q) refl h

pub is_below-way : (p : Path) (ns : List Name) → is_below p (p ++ ns) ≡ true
is_below-way p ns = ap is_some (below-append p ns)

pub is_below-itself : (p : Path) → is_below p p ≡ true
is_below-itself p = subst (λ q. is_below p q ≡ true) (append-nil p) (is_below-way p [])

way_by : (p q : Path) (o : Option (List Name)) → names_below p q ≡ o → is_some o ≡ true → (ns : List Name) × (q ≡ p ++ ns)
way_by p q None b e = not_both e refl
way_by p q (Some ns) b e = (ns, below_is p q ns b)

pub way_to : (p q : Path) → is_below p q ≡ true → (ns : List Name) × (q ≡ p ++ ns)
way_to p q h = way_by p q (names_below p q) refl h

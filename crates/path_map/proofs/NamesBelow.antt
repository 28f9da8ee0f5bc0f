-- The names on the way down to a path, and where they stand in its text.
use Rattle.std.proofs.Common.{◌≡◌, ◌≢◌, ℕ, suc, ◌+◌, ◌<◌, ◌==◌, Bool, true, false, cond, not, List, [], ◌∷◌, ◌++◌, length, take, drop, Option, Some, None, is_some, refl, sym, ap, subst, ◌∙◌, arith, length-append, append-nil, ne_eqb}
use Rattle.std.specs.List.{AllByRecursion, before_first, prefix_len}
use Rattle.std.proofs.lemmas.List.{drop_more, drop_at}
use Rattle.xs_model.specs.Paths.{Path, Name, names_below, is_below, same_path, names_text, text}
use Rattle.xs_model.specs.Laws.{IsName, HasNames}
use Rattle.xs_model.proofs.PathLemmas.{way_to, below-append, same_path-is, same_path-itself}
use Rattle.xs_path.proofs.Below.{names_text-append}
use Rattle.path_map.specs.Marks.{first_below}

-- the first name on the way from p down to q, and those behind it
pub record Way (p q : Path) : Type 0 where
  pub name : Name
  pub rest : List Name
  pub is : q ≡ p ++ (name ∷ rest)

pub way_down : (p q : Path) → is_below p q ≡ true → same_path q p ≡ false → Way p q
way_down p q h other = let way = way_to p q h in by way.0 way.1
  where
    by : (ns : List Name) → q ≡ p ++ ns → Way p q
    by [] e = let same : same_path q p ≡ true = ap (λ r. same_path r p) (e ∙ append-nil p) ∙ same_path-itself p in cc
    by (n ∷ ns) e = record { name = n; rest = ns; is = e }

-- no name leads from a path to one that is not below it, nor to itself
pub first_below-outside : (p q : Path) → is_below p q ≡ false → first_below (names_below p q) ≡ None
first_below-outside p q h = by (names_below p q) h
  where
    by : (o : Option (List Name)) → is_some o ≡ false → first_below o ≡ None
    by None e = refl
    by (Some ns) e = cc

pub first_below-itself : (p q : Path) → same_path q p ≡ true → first_below (names_below p q) ≡ None
first_below-itself p q same =
    ap (λ r. first_below (names_below p r)) (same_path-is q p same ∙ sym (append-nil p)) ∙ ap first_below (below-append p [])

-- the text behind a slash
pub behind_slash : (a x t : List ℕ) (n : ℕ) → t ≡ a ++ 47 ∷ x → n ≡ length a → record { within : n < length t; behind : drop (n + 1) t ≡ x }
behind_slash a x t n e l = record {
  within = within;
  behind = more t e;
}
  where
    within : n < length t
    within = omega (arith, ap length e, length-append a (47 ∷ x))

    more : (u : List ℕ) → u ≡ a ++ 47 ∷ x → drop (n + 1) u ≡ x
    more u f =
        let at : drop n u ≡ 47 ∷ x = ap (λ l. drop n l) f ∙ drop_at a (47 ∷ x) n (sym l) in
        let inside : n < length u = omega (arith, ap length f, length-append a (47 ∷ x)) in
        ap (λ l. drop 1 l) (sym (drop_more u n 47 inside) ∙ at)

module _ (p q : Path) (way : Way p q) where
  -- what stands behind p and a slash
  behind_is : names_text q ≡ names_text p ++ 47 ∷ (way.name ++ names_text way.rest)
  behind_is = ap names_text way.is ∙ names_text-append p (way.name ∷ way.rest)

  text_is : text q ≡ names_text q
  text_is = ap text way.is ∙ some p ∙ ap names_text (sym way.is)
    where
      some : (r : Path) → text (r ++ (way.name ∷ way.rest)) ≡ names_text (r ++ (way.name ∷ way.rest))
      some [] = refl
      some (m ∷ r) = refl

  pub first_below-way : first_below (names_below p q) ≡ Some way.name
  first_below-way = ap (λ r. first_below (names_below p r)) way.is ∙ ap first_below (below-append p (way.name ∷ way.rest))

  pub named : HasNames q → IsName way.name
  named h = by p (subst HasNames way.is h)
    where
      by : (r : Path) → HasNames (r ++ (way.name ∷ way.rest)) → IsName way.name
      by [] k = k.0
      by (m ∷ r) k = by r k.1

  pub text_below : (t : List ℕ) (n : ℕ) → t ≡ text q → n ≡ length (names_text p) → record { within : n < length t; behind : names_text q ≡ names_text p ++ 47 ∷ drop (n + 1) t }
  text_below t n e l =
      let there = behind_slash (names_text p) (way.name ++ names_text way.rest) t n (e ∙ text_is ∙ behind_is) l in
      record { within = there.within; behind = behind_is ∙ ap (λ x. names_text p ++ 47 ∷ x) (sym there.behind) }

  -- and what stands there is the first name and the text of those behind it
  pub rest_is : (x : List ℕ) → names_text q ≡ names_text p ++ 47 ∷ x → x ≡ way.name ++ names_text way.rest
  rest_is x e = sym (behind_slash (names_text p) x (names_text q) (length (names_text p)) e refl).behind ∙ (behind_slash (names_text p) (way.name ++ names_text way.rest) (names_text q) (length (names_text p)) behind_is refl).behind

abbrev pub slash : ℕ → Bool
slash b = b == 47

-- a name ends at a slash
pub to_slash : (n : Name) (rest : Path) → AllByRecursion (λ b. b ≢ 47) n → before_first slash (n ++ names_text rest) ≡ n
to_slash [] [] h = refl
to_slash [] (m ∷ rest) h = refl
to_slash (b ∷ n) rest h =
    let other : slash b ≡ false = ne_eqb b 47 h.0 in
    let k = prefix_len (λ x. not (slash x)) (n ++ names_text rest) in
    ap (λ c. take (cond (not c) (1 + k) 0) (b ∷ (n ++ names_text rest))) other ∙ ap (λ j. take j (b ∷ (n ++ names_text rest))) (one_more k) ∙ ap (λ l. b ∷ l) (to_slash n rest h.1)
  where
    one_more : (k : ℕ) → 1 + k ≡ suc k
    one_more k = omega arith

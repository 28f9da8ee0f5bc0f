-- Chunks stay laid out where one is edited or split.
use Rattle.std.proofs.Common.{◌≡◌, ℕ, ◌-◌, ◌<◌, ◌≤◌, List, [], ◌∷◌, length, take, get_or, set, ap, arith, length-set}
use Rattle.std.proofs.lemmas.List.{length-take}
use Rattle.std.proofs.lemmas.List.Elements.{All-cons, All-nil, All-same, All-set, All-take}
use Rattle.path_map.specs.Chunks.{half, halved, IsLaidOut}
use Rattle.path_map.proofs.Halved.{length_halved, filled_halved}
use Rattle.path_map.specs.Map.{Entries}

module _ {T : Type 0} where
  pub laid_out_one : (cs spare : List (Entries T)) (capacity : ℕ) (c : Entries T) → cs ≡ c ∷ [] → 0 < length c → spare ≡ [] → length cs ≤ capacity → IsLaidOut cs spare capacity
  laid_out_one cs spare capacity c one some none fits = record {
    filled = All-same (λ (d : Entries T). 0 < length d) cs (c ∷ []) one (All-cons (λ (d : Entries T). 0 < length d) c [] some (All-nil (λ (d : Entries T). 0 < length d)));
    unused = All-same (λ (d : Entries T). length d ≡ 0) spare [] none (All-nil (λ (d : Entries T). length d ≡ 0));
    space = omega (arith, ap length none);
  }

  pub laid_out_set : (cs spare : List (Entries T)) (capacity i : ℕ) (c : Entries T) → 0 < length c → IsLaidOut cs spare capacity → IsLaidOut (set cs i c) spare capacity
  laid_out_set cs spare capacity i c some h = record {
    filled = All-set (λ (d : Entries T). 0 < length d) cs i c some h.filled;
    unused = h.unused;
    space = omega (arith, length-set cs i c, h.space);
  }

  pub laid_out_halved : (cs spare rest : List (Entries T)) (capacity larger i n : ℕ) → i < length cs → half < length (get_or cs i []) → rest ≡ take (n - 1) spare → n ≡ length spare → 0 < n → capacity ≤ larger → IsLaidOut cs spare capacity → IsLaidOut (halved cs i) rest larger
  laid_out_halved cs spare rest capacity larger i n within long is len some more h = record {
    filled = filled_halved cs i within long h.filled;
    unused = All-same (λ (d : Entries T). length d ≡ 0) rest (take (n - 1) spare) is (All-take (λ (d : Entries T). length d ≡ 0) (n - 1) spare h.unused);
    space = omega (arith, length_halved cs i within, h.space, ap length is, length-take (n - 1) spare);
  }

-- A list that begins another begins a front of it.
use Rattle.std.proofs.Common.{◌≡◌, ℕ, ◌≤◌, List, ◌++◌, length, get_or, take, sym, ap, ◌∙◌, arith, length-take-le, get_or-take}
use Rattle.std.proofs.lemmas.List.{same_lists, get_or_append_left}
use Rattle.ring_words.specs.Rule.{Begins}

pub front_of : (n : ℕ) (got sent full rest : List ℕ) → Begins got sent → sent ≡ full ++ rest → length got ≡ n → n ≤ length full → got ≡ take n full
front_of n got sent full rest (behind, is) cut long fits =
    same_lists got (take n full) (long ∙ sym (length-take-le n full fits)) (λ i d inside.
    sym (get_or_append_left got behind d i (omega arith)) ∙ ap (λ l. get_or l i d) (sym is ∙ cut) ∙ get_or_append_left full rest d i (omega arith) ∙ sym (get_or-take n full i d (omega arith)))

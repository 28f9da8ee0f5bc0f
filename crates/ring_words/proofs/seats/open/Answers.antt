use Rattle.std.proofs.Common.{ℕ, rules, refl, replicate}
use Rattle.std.proofs.lemmas.List.{get_or-replicate, length-replicate}
use Rattle.ring_words.proofs.EndLemmas.{opens, opens_split}
use Rattle.ring_words.proofs.seats.open.Goals as goal

pub of_words-requires : goal.of_words-requires
of_words-requires c =
    let start = c.args.start in
    let worked = opens start (replicate 1027 0) (search rules) (length-replicate {A = ℕ} 1027 0) (λ k below. get_or-replicate 1027 k 0 0 below) in
    (refl, rw c.first_words-words.ensures worked)

pub split_seat-consumer-requires : goal.split_seat-consumer-requires
split_seat-consumer-requires c =
    let made = c.in_ok-table.ensures in
    (search rules, search rules, opens_split _ _ (search rules))

-- The laws of a queue.
use Rattle.std.proofs.Common.{◌≡◌, ℕ, zero, suc, ◌+◌, ◌-◌, ◌^◌, ◌<◌, ◌&&◌, List, [], ◌∷◌, ◌++◌, length, refl, sym, ap, ap₂, ◌∙◌, arith}
use Rattle.std.proofs.lemmas.List.{drop_all}
use Rattle.byteorder.specs.Numbers.{little_number-reads_back}
use Rattle.xs_model.specs.declared.message.Header.{Header}
use Rattle.xs_model.specs.Messages.{word_at, header_bytes}
use Rattle.xs_model.specs.Wholes.{message_length, whole_behind, rest_after}
use Rattle.out_queues.specs.Laws.{WrittenIsWhole, StaysQueue, PiecesJoin, WholeLeaveNothing}
use Rattle.out_queues.proofs.MessageLemmas.{both_true, le_is, message_there, message_length-append, whole_behind-first, whole_behind-within, whole_behind-rest_after}

pub stays_queue : StaysQueue
stays_queue = whole_behind-rest_after

rest_after-none : (rest n : ℕ) → rest_after rest n [] ≡ rest
rest_after-none rest zero = refl
rest_after-none rest (suc n) = refl

one_more : (m n : ℕ) → suc (m + n) ≡ suc m + n
one_more m n = omega arith

pub pieces_join : PiecesJoin
pieces_join rest zero n bytes = ap (λ m. rest_after rest m bytes) (omega arith)
pieces_join rest (suc m) n [] = rest_after-none rest n ∙ sym (rest_after-none rest (suc m + n))
pieces_join zero (suc m) n (b ∷ bs) =
    pieces_join (message_length (b ∷ bs) - 1) m n bs ∙ ap (λ k. rest_after 0 k (b ∷ bs)) (one_more m n)
pieces_join (suc rest) (suc m) n (b ∷ bs) =
    pieces_join rest m n bs ∙ ap (λ k. rest_after (suc rest) k (b ∷ bs)) (one_more m n)

pub whole_leave_nothing : WholeLeaveNothing
whole_leave_nothing zero [] more h = refl
whole_leave_nothing (suc rest) [] more h = cc
whole_leave_nothing zero (b ∷ bs) more h =
    let parts = both_true _ _ h in
    let there = message_there (b ∷ bs) parts.0 in
    let same : message_length ((b ∷ bs) ++ more) ≡ message_length (b ∷ bs) = message_length-append (b ∷ bs) more there.0 in
    ap (λ m. rest_after (m - 1) (length bs) (bs ++ more)) same ∙ whole_leave_nothing (message_length (b ∷ bs) - 1) bs more parts.1
whole_leave_nothing (suc rest) (b ∷ bs) more h = whole_leave_nothing rest bs more h

-- the length in a header that was written
word_at-written : (head : Header) (payload : List ℕ) → head.len < 256 ^ 4 → word_at 12 (header_bytes head ++ payload) ≡ head.len
word_at-written head payload fits = little_number-reads_back 4 head.len payload fits

pub written_is_whole : WrittenIsWhole
written_is_whole head payload len fits =
    let message = header_bytes head ++ payload in
    let size : length message ≡ 16 + length payload = omega arith in
    let word : word_at 12 message ≡ length payload = word_at-written head payload (omega arith) ∙ len in
    let ends : message_length message ≡ length message = omega (arith, word) in
    whole_behind-first message (omega arith) ∙ ap₂ ◌&&◌ (ap₂ ◌&&◌ (le_is 16 (length message) (omega arith)) (ap₂ ◌&&◌ (le_is (word_at 12 message) 4096 (rw word fits)) (le_is (message_length message) (length message) (omega arith))))
    (whole_behind-within (message_length message) message (omega arith) ∙ ap (whole_behind 0) (drop_all (message_length message) message (omega arith)))

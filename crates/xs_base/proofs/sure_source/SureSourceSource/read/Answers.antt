-- What was left is what was copied and what is left now.
use Rattle.std.proofs.Common.{◌≡◌, ℕ, ◌+◌, ◌<◌, List, [], ◌++◌, length, min, take, drop, sym, ap, ◌∙◌, take-append-drop, length-drop, arith}
use Rattle.std.proofs.lemmas.List.{drop-drop, drop_all, take_rest}
use Rattle.xs_base.proofs.sure_source.SureSourceSource.read.Goals as goal

split_at : (bytes copied : List ℕ) (at n : ℕ) → take n copied ≡ take n (drop at bytes) → drop at bytes ≡ take n copied ++ drop (at + n) bytes
split_at bytes copied at n same =
    sym (take-append-drop n (drop at bytes)) ∙ ap (λ front. front ++ drop n (drop at bytes)) (sym same)
    ∙ ap (λ rest. take n copied ++ rest) (drop-drop n at bytes)

none_left : (bytes into : List ℕ) (at n : ℕ) → n ≡ min (length into) (length (drop at bytes)) → n ≡ 0 → 0 < length into → drop (at + n) bytes ≡ []
none_left bytes into at n count none room = drop_all (at + n) bytes (omega (arith, length-drop at bytes))

pub returns-clause-bytes : goal.returns-clause-bytes
returns-clause-bytes c =
    let at = c.self.inside.at in let n = c.copy_front-count.result in
    let bytes = c.self.inside.bytes in let into = c.copy_front-count.new.into in
    let copied = rw (c.as_slice.ensures, take_rest bytes at) at c.copy_front-count.ensures.bytes in
    let count = rw (c.as_slice.ensures, take_rest bytes at) at c.copy_front-count.ensures.count in
    (sym c.self.view_is ∙ split_at bytes into at n copied, none_left bytes into at n count)

-- A header and a payload, one behind the other.
use Rattle.std.proofs.Common.{◌≡◌, ℕ, ◌+◌, List, ◌++◌, length, take, sym, ap, ◌∙◌, append_assoc, length-append}
use Rattle.std.proofs.Math.Seq.{take-append_seam}

pub both_put : (head payload old mid new : List ℕ) → length head ≡ 16 → mid ≡ head ++ old → (rest : List ℕ) → new ≡ take 16 mid ++ (payload ++ rest) → take (16 + length payload) new ≡ head ++ payload
both_put head payload old mid new sixteen first rest second =
    let front : take 16 mid ≡ head = ap (λ n. take n mid) (sym sixteen) ∙ ap (take (length head)) first ∙ take-append_seam head old in
    let whole : new ≡ (head ++ payload) ++ rest = second ∙ ap (λ f. f ++ (payload ++ rest)) front ∙ sym (append_assoc head payload rest) in
    let count : 16 + length payload ≡ length (head ++ payload) = ap (λ n. n + length payload) (sym sixteen) ∙ sym (length-append head payload) in
    ap (λ n. take n new) count ∙ ap (take (length (head ++ payload))) whole ∙ take-append_seam (head ++ payload) rest

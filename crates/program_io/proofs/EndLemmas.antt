-- What sinks were told, one piece after another.
use Rattle.std.proofs.Common.{◌≡◌, ℕ, ◌+◌, ◌-◌, length, length-drop, take_all, arith, List, [], ◌++◌, take, drop, min, sym, ap, subst, ◌∙◌, append_assoc, Option, Some, None}
use Rattle.std.proofs.Math.Seq.{take-add, take-append-add, take-append_seam}
use Rattle.std.proofs.lemmas.List.{append-nil, take_min, take-append-le}
use Rattle.std.specs.Io.KnownBytes.{Appends, Consumes, Keeps}
use Rattle.program_io.specs.Ends.{AppendsFront, AppendsBut}

-- a front of a text, and then more of it
pub appends_more : (old mid new : Option (List ℕ)) (text : List ℕ) (i n : ℕ) → Appends old mid (take i text) → Appends mid new (take n (drop i text)) → Appends old new (take (i + n) text)
appends_more None mid new text i n first more = tt
appends_more (Some xs) None new text i n first more = absurd first
appends_more (Some xs) (Some ys) None text i n first more = absurd more
appends_more (Some xs) (Some ys) (Some zs) text i n first more =
    more ∙ ap (λ l. l ++ take n (drop i text)) first ∙ append_assoc xs (take i text) (take n (drop i text)) ∙ ap (λ l. xs ++ l) (sym (take-add i n text))

-- the same where the piece is the slice from a place on
pub appends_rest : (old mid new : Option (List ℕ)) (text : List ℕ) (i n : ℕ) → Appends old mid (take i text) → Appends mid new (take n (take (length text - i) (drop i text))) → Appends old new (take (i + n) text)
appends_rest old mid new text i n first more =
    appends_more old mid new text i n first (rw (take_all (length text - i) (drop i text) (simp length-drop (omega arith))) at more)

-- nothing of a text
pub nothing_appended : (old : Option (List ℕ)) → Appends old old []
nothing_appended None = tt
nothing_appended (Some xs) = sym (append-nil xs)

-- WHAT A SOURCE GAVE: a text and then more of it, or nothing
pub consumes_more : (old mid new : Option (List ℕ)) (text more : List ℕ) → Consumes old mid text → Consumes mid new more → Consumes old new (text ++ more)
consumes_more None mid new text more first second = tt
consumes_more (Some xs) None new text more first second = absurd first
consumes_more (Some xs) (Some ys) None text more first second = absurd second
consumes_more (Some xs) (Some ys) (Some zs) text more first second = first ∙ ap (λ l. text ++ l) second ∙ sym (append_assoc text more zs)

pub consumes_kept : (old mid new : Option (List ℕ)) (text : List ℕ) → Consumes old mid text → Keeps mid new → Consumes old new text
consumes_kept None mid new text first keeps = tt
consumes_kept (Some xs) None new text first keeps = absurd first
consumes_kept (Some xs) (Some ys) None text first keeps = absurd keeps
consumes_kept (Some xs) (Some ys) (Some zs) text first keeps = first ∙ ap (λ l. text ++ l) (sym keeps)

-- LINES through a buffer
pub appends_then : (old mid new : Option (List ℕ)) (first more : List ℕ) → Appends old mid first → Appends mid new more → Appends old new (first ++ more)
appends_then None mid new first more a b = tt
appends_then (Some xs) None new first more a b = absurd a
appends_then (Some xs) (Some ys) None first more a b = absurd b
appends_then (Some xs) (Some ys) (Some zs) first more a b = b ∙ ap (λ l. l ++ more) a ∙ append_assoc xs first more

-- what was written is a front
pub front_so_far : (old new : Option (List ℕ)) (text rest : List ℕ) → AppendsBut old new text rest → AppendsFront old new text
front_so_far old new text rest h =
    let same : take (length h.0) text ≡ h.0 = ap (take (length h.0)) h.2 ∙ take-append_seam h.0 rest in
    (length h.0, subst (λ (x : List ℕ). Appends old new x) (sym same) h.1)

-- and a front of what came next is one too
pub front_then : (old mid new : Option (List ℕ)) (text lines rest : List ℕ) → AppendsBut old mid text (lines ++ rest) → AppendsFront mid new lines → AppendsFront old new text
front_then old mid new text lines rest h more =
    let n = min more.0 (length lines) in
    let cut : take n lines ≡ take more.0 lines = take_min more.0 lines in
    let whole : take (length h.0 + n) text ≡ h.0 ++ take n lines = ap (take (length h.0 + n)) h.2 ∙ take-append-add h.0 (lines ++ rest) n ∙ ap (λ (x : List ℕ). h.0 ++ x) (take-append-le n lines rest (omega arith)) in
    (length h.0 + n, subst (λ (x : List ℕ). Appends old new x) (sym (whole ∙ ap (λ (x : List ℕ). h.0 ++ x) cut)) (appends_then old mid new h.0 (take more.0 lines) h.1 more.1))

-- some lines were written, and others are left
pub but_then : (old mid new : Option (List ℕ)) (text lines left rest : List ℕ) → AppendsBut old mid text (lines ++ rest) → AppendsBut mid new lines left → AppendsBut old new text (left ++ rest)
but_then old mid new text lines left rest h more = (
  h.0 ++ more.0,
  appends_then old mid new h.0 more.0 h.1 more.1,
  h.2 ∙ ap (λ (x : List ℕ). h.0 ++ (x ++ rest)) more.2 ∙ ap (λ (x : List ℕ). h.0 ++ x) (append_assoc more.0 left rest) ∙ sym (append_assoc h.0 more.0 (left ++ rest)),
)

-- all that was left was written
pub all_then : (old mid new : Option (List ℕ)) (text lines : List ℕ) → AppendsBut old mid text lines → Appends mid new lines → Appends old new text
all_then old mid new text lines h more = subst (λ (x : List ℕ). Appends old new x) (sym h.2) (appends_then old mid new h.0 lines h.1 more)

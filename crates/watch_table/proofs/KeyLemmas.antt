-- Keys and the watches in them.
use Rattle.std.specs.Prelude.{◌≡◌, ℕ, ◌+◌, ◌<◌, ◌≤◌, ◌^◌, Bool, true, false, ◌&&◌, List, ◌++◌, length, take, drop}
use Rattle.std.proofs.Common.{refl, sym, ap, subst, ◌∙◌, arith, length-append, length-take, length-drop, true≢false}
use Rattle.std.proofs.lemmas.List.{take_at, drop_at}
use Rattle.std.proofs.lemmas.Nat.{from_be_bytes-to_be_bytes_2}
use Rattle.std.specs.Int.{w16, to_be_bytes}
use Rattle.std.specs.Cmp.Lexicographic.{bytes_decides}
use Rattle.std.specs.Str.{bytes_eq}
use Rattle.xs_model.specs.Watches.{Watch, same_watch}
use Rattle.watch_table.specs.Tables.{watch_of}
use Rattle.watch_table.specs.Keys.{joined, path_length, watch_in, IsKey}

pub joined-length : (w : Watch) → length (joined w) ≡ length w.wpath + length w.token + 2
joined-length w = omega (arith, length-append w.wpath w.token)

pub joined-front : (w : Watch) → take 2 (joined w) ≡ to_be_bytes w16 (length w.wpath)
joined-front w = refl

pub joined-back : (w : Watch) → drop 2 (joined w) ≡ w.wpath ++ w.token
joined-back w = refl

pub joined-path_length : (w : Watch) → length w.wpath < 2 ^ 16 → path_length (joined w) ≡ length w.wpath
joined-path_length w h = from_be_bytes-to_be_bytes_2 (length w.wpath) h

-- what joined a watch gives it back
pub parted : (w : Watch) → length w.wpath < 2 ^ 16 → watch_in (joined w) ≡ w
parted w h =
    let n = joined-path_length w h in
    ap (λ (k : ℕ). watch_of (take k (w.wpath ++ w.token)) (drop k (w.wpath ++ w.token))) n
    ∙ (λ i. watch_of (take_at w.wpath w.token (length w.wpath) refl i) (drop_at w.wpath w.token (length w.wpath) refl i))

-- so two watches have one key only if they are one
pub same_by : (b c : Bool) → (b ≡ true → c ≡ true) → (c ≡ true → b ≡ true) → b ≡ c
same_by true true f g = refl
same_by true false f g = sym (f refl)
same_by false true f g = g refl
same_by false false f g = refl

and_split : (a b : Bool) → (a && b) ≡ true → (a ≡ true) × (b ≡ true)
and_split true b h = (refl, h)
and_split false b h = absurd (true≢false (sym h))

pub same_self : (w : Watch) → same_watch w w ≡ true
same_self w = λ i. (bytes_decides w.wpath w.wpath).1 refl i && (bytes_decides w.token w.token).1 refl i

pub same_parts : (v w : Watch) → same_watch v w ≡ true → v ≡ w
same_parts v w h =
    let p = and_split _ _ h in
    λ i. watch_of ((bytes_decides v.wpath w.wpath).0 p.0 i) ((bytes_decides v.token w.token).0 p.1 i)

pub same_key : (v w : Watch) → length v.wpath < 2 ^ 16 → length w.wpath < 2 ^ 16 → bytes_eq (joined v) (joined w) ≡ same_watch v w
same_key v w hv hw =
    same_by _ _
    (λ (e : bytes_eq (joined v) (joined w) ≡ true).
    let same : v ≡ w = sym (parted v hv) ∙ ap watch_in ((bytes_decides (joined v) (joined w)).0 e) ∙ parted w hw in
    subst (λ (x : Watch). same_watch v x ≡ true) same (same_self v))
    (λ (e : same_watch v w ≡ true). (bytes_decides (joined v) (joined w)).1 (ap joined (same_parts v w e)))

-- the parts of a key
pub key_long : (key : List ℕ) → IsKey key → 2 ≤ length key
key_long key k = omega (arith, ap length k.parts, joined-length (watch_in key))

pub key_path : (key : List ℕ) → IsKey key → path_length key + 2 ≤ length key
key_path key k =
    let w : Watch = watch_in key in
    let short : length w.wpath < 2 ^ 16 = omega (arith, ap length k.parts, joined-length w, k.fits) in
    let n : path_length key ≡ length w.wpath = ap path_length k.parts ∙ joined-path_length w short in
    omega (arith, n, ap length k.parts, joined-length w, length-take (path_length key) (drop 2 key), length-drop 2 key)

-- Lemmas on a ring's indices and cells, for the laws of a page that nobody pokes.
use Rattle.std.proofs.Common.{◌≡◌, ℕ, ◌+◌, ◌-◌, ◌%◌, ◌^◌, ◌<◌, ◌≤◌, ◌⊎◌, List, ◌++◌, length, get_or, take, drop, sym, ap, ◌∙◌, inl, inr, arith, length-append, length-drop, length-take, length-take-le, get_or-drop, get_or-take}
use Rattle.std.proofs.lemmas.List.{same_lists, places, get_or_append_left, get_or-append_right}
use Rattle.std.proofs.lemmas.Bool.{cases_lt}
use Rattle.world_model.specs.Rings.{held, cells_from, overwrite, overwrite_round}

-- INDICES. A place is the same for an index before and after its wrap
pub place_wraps : (n : ℕ) → n % 2 ^ 32 % 1024 ≡ n % 1024
place_wraps n = omega arith

pub place_adds : (m n : ℕ) → (m % 1024 + n) % 1024 ≡ (m + n) % 1024
place_adds m n = omega arith

pub used_after_put : (prod cons b : ℕ) → prod < 2 ^ 32 → cons < 2 ^ 32 → (prod + (2 ^ 32 - cons)) % 2 ^ 32 + b ≤ 1024 → ((prod + b) % 2 ^ 32 + (2 ^ 32 - cons)) % 2 ^ 32 ≡ (prod + (2 ^ 32 - cons)) % 2 ^ 32 + b
used_after_put prod cons b p c h = omega arith

pub used_after_take : (prod cons n : ℕ) → prod < 2 ^ 32 → cons < 2 ^ 32 → n ≤ (prod + (2 ^ 32 - cons)) % 2 ^ 32 → (prod + (2 ^ 32 - (cons + n) % 2 ^ 32)) % 2 ^ 32 ≡ (prod + (2 ^ 32 - cons)) % 2 ^ 32 - n
used_after_take prod cons n p c h = omega arith

-- the place where the next byte is put
pub put_place : (prod cons : ℕ) → prod < 2 ^ 32 → cons < 2 ^ 32 → prod % 1024 ≡ (cons % 1024 + (prod + (2 ^ 32 - cons)) % 2 ^ 32) % 1024
put_place prod cons p c = omega arith

-- CELLS. A place below twice 1024 wraps once at the most
once_round : (j : ℕ) → j < 2048 → ((j < 1024) × (j % 1024 ≡ j)) ⊎ ((1024 ≤ j) × (j % 1024 ≡ j - 1024))
once_round j below = elim (cases_lt j 1024) [
  | inl low ↦ inl (low, omega arith)
  | inr high ↦ inr (high, omega arith)
]

length-cells_from : (at : ℕ) (cells : List ℕ) → at < 1024 → length cells ≡ 1024 → length (cells_from at cells) ≡ 1024
length-cells_from at cells place whole = grind (arith, places)

get_or-cells_from : (at : ℕ) (cells : List ℕ) (i d : ℕ) → at < 1024 → length cells ≡ 1024 → i < 1024 → get_or (cells_from at cells) i d ≡ get_or cells ((at + i) % 1024) d
get_or-cells_from at cells i d place whole inside =
    let tail = length-drop at cells in
    elim (once_round (at + i) (omega arith)) [
      | inl straight ↦ get_or_append_left _ _ d i (omega arith) ∙ get_or-drop at cells i d ∙ ap (λ j. get_or cells j d) (omega arith)
      | inr wrapped ↦ get_or-append_right _ _ (1024 - at) i d (omega arith) (omega arith) ∙ get_or-take at cells _ d (omega arith) ∙ ap (λ j. get_or cells j d) (omega arith)
    ]

get_or-overwrite_below : (at : ℕ) (bytes cells : List ℕ) (j d : ℕ) → j < at → at ≤ length cells → get_or (overwrite at bytes cells) j d ≡ get_or cells j d
get_or-overwrite_below at bytes cells j d below fits = grind (arith, places)

get_or-overwrite_inside : (at : ℕ) (bytes cells : List ℕ) (j d : ℕ) → at ≤ j → j < at + length bytes → at ≤ length cells → get_or (overwrite at bytes cells) j d ≡ get_or bytes (j - at) d
get_or-overwrite_inside at bytes cells j d from to fits = grind (arith, places)

get_or-overwrite_above : (at : ℕ) (bytes cells : List ℕ) (j d : ℕ) → at + length bytes ≤ j → at ≤ length cells → get_or (overwrite at bytes cells) j d ≡ get_or cells j d
get_or-overwrite_above at bytes cells j d above fits = grind (arith, places)

length-overwrite : (at : ℕ) (bytes cells : List ℕ) → at + length bytes ≤ length cells → length (overwrite at bytes cells) ≡ length cells
length-overwrite at bytes cells fits = grind (arith, places)

-- a run of bytes from p on, in cells that are 1024
module _ (p : ℕ) (bytes cells : List ℕ) (place : p < 1024) (whole : length cells ≡ 1024) (fits : length bytes ≤ 1024) where
  first_piece : List ℕ
  first_piece = take (1024 - p) bytes

  pub length-overwrite_round : length (overwrite_round p bytes cells) ≡ 1024
  length-overwrite_round =
      let front = length-take (1024 - p) bytes in
      let behind = length-drop (1024 - p) bytes in
      let once = length-overwrite p (take (1024 - p) bytes) cells (omega arith) in
      length-overwrite 0 (drop (1024 - p) bytes) (overwrite p (take (1024 - p) bytes) cells) (omega arith) ∙ once ∙ whole

  -- the bytes stand from p on
  pub get_or-overwrite_round_new : (i d : ℕ) → i < length bytes → get_or (overwrite_round p bytes cells) ((p + i) % 1024) d ≡ get_or bytes i d
  get_or-overwrite_round_new i d inside =
      let front = length-take (1024 - p) bytes in
      let behind = length-drop (1024 - p) bytes in
      let mid = overwrite p (take (1024 - p) bytes) cells in
      let once = length-overwrite p (take (1024 - p) bytes) cells (omega arith) in
      elim (once_round (p + i) (omega arith)) [
        | inl straight ↦ ap (λ j. get_or (overwrite_round p bytes cells) j d) straight.1 ∙ get_or-overwrite_above 0 (drop (1024 - p) bytes) mid (p + i) d (omega arith) (omega arith) ∙ get_or-overwrite_inside p (take (1024 - p) bytes) cells (p + i) d (omega arith) (omega arith) (omega arith) ∙ ap (λ j. get_or (take (1024 - p) bytes) j d) (omega arith) ∙ get_or-take (1024 - p) bytes i d (omega arith)
        | inr wrapped ↦ ap (λ j. get_or (overwrite_round p bytes cells) j d) wrapped.1 ∙ get_or-overwrite_inside 0 (drop (1024 - p) bytes) mid (p + i - 1024) d (omega arith) (omega arith) (omega arith) ∙ get_or-drop (1024 - p) bytes (p + i - 1024 - 0) d ∙ ap (λ j. get_or bytes j d) (omega arith)
      ]

  -- behind them stands what stood there
  pub get_or-overwrite_round_old : (k d : ℕ) → length bytes ≤ k → k < 1024 → get_or (overwrite_round p bytes cells) ((p + k) % 1024) d ≡ get_or cells ((p + k) % 1024) d
  get_or-overwrite_round_old k d behind_bytes inside =
      let front = length-take (1024 - p) bytes in
      let behind = length-drop (1024 - p) bytes in
      let mid = overwrite p (take (1024 - p) bytes) cells in
      let once = length-overwrite p (take (1024 - p) bytes) cells (omega arith) in
      elim (once_round (p + k) (omega arith)) [
        | inl straight ↦ rw straight.1 (get_or-overwrite_above 0 (drop (1024 - p) bytes) mid (p + k) d (omega arith) (omega arith) ∙ get_or-overwrite_above p (take (1024 - p) bytes) cells (p + k) d (omega arith) (omega arith))
        | inr wrapped ↦ rw wrapped.1 (get_or-overwrite_above 0 (drop (1024 - p) bytes) mid (p + k - 1024) d (omega arith) (omega arith) ∙ get_or-overwrite_below p (take (1024 - p) bytes) cells (p + k - 1024) d (omega arith) (omega arith))
      ]

-- THE BYTES FROM c ON, u of them, before and after
module _ (c u : ℕ) (cells : List ℕ) (place : c < 1024) (some : u ≤ 1024) (whole : length cells ≡ 1024) where
  pub length-run : length (take u (cells_from c cells)) ≡ u
  length-run = length-take-le u _ (omega (arith, length-cells_from c cells place whole))

  get_or-run : (i d : ℕ) → i < u → get_or (take u (cells_from c cells)) i d ≡ get_or cells ((c + i) % 1024) d
  get_or-run i d inside = get_or-take u _ i d inside ∙ get_or-cells_from c cells i d place whole (omega arith)

-- bytes that are written behind a run join it
pub run_after_put : (c u : ℕ) (bytes cells : List ℕ) → c < 1024 → u + length bytes ≤ 1024 → length cells ≡ 1024 → take (u + length bytes) (cells_from c (overwrite_round ((c + u) % 1024) bytes cells)) ≡ take u (cells_from c cells) ++ bytes
run_after_put c u bytes cells place some whole =
    let p = (c + u) % 1024 in
    let low : p < 1024 = omega arith in
    let after = overwrite_round p bytes cells in
    let whole_after = length-overwrite_round p bytes cells low whole (omega arith) in
    let old = length-run c u cells place (omega arith) whole in
    let new = length-run c (u + length bytes) after place some whole_after in
    same_lists _ _ (new ∙ sym (length-append _ bytes ∙ ap (λ n. n + length bytes) old)) (λ i d inside.
    let at = get_or-run c (u + length bytes) after place some whole_after i d (omega arith) in
    elim (cases_lt i u) [
      | inl held ↦
          let same : (c + i) % 1024 ≡ (p + (1024 - u + i)) % 1024 = omega arith in
          let kept = get_or-overwrite_round_old p bytes cells low whole (omega arith) (1024 - u + i) d (omega arith) (omega arith) in
          at ∙ rw same kept ∙ sym (get_or_append_left _ bytes d i (omega arith) ∙ get_or-run c u cells place (omega arith) whole i d held ∙ ap (λ j. get_or cells j d) same)
      | inr put ↦
          let same : (c + i) % 1024 ≡ (p + (i - u)) % 1024 = omega arith in
          at ∙ rw same (get_or-overwrite_round_new p bytes cells low whole (omega arith) (i - u) d (omega arith)) ∙ sym (get_or-append_right _ bytes u i d old put)
    ])

-- a run without its first n bytes begins n places on
pub run_after_take : (c u n : ℕ) (cells : List ℕ) → c < 1024 → u ≤ 1024 → n ≤ u → length cells ≡ 1024 → take (u - n) (cells_from ((c + n) % 1024) cells) ≡ drop n (take u (cells_from c cells))
run_after_take c u n cells place some there whole =
    let low : (c + n) % 1024 < 1024 = omega arith in
    let old = length-run c u cells place some whole in
    let new = length-run ((c + n) % 1024) (u - n) cells low (omega arith) whole in
    same_lists _ _ (new ∙ sym (length-drop n _ ∙ ap (λ m. m - n) old)) (λ i d inside.
    let same : ((c + n) % 1024 + i) % 1024 ≡ (c + (n + i)) % 1024 = omega arith in
    get_or-run ((c + n) % 1024) (u - n) cells low (omega arith) whole i d (omega arith) ∙ ap (λ j. get_or cells j d) same ∙ sym (get_or-drop n _ i d ∙ get_or-run c u cells place some whole (n + i) d (omega arith)))

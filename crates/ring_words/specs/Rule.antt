-- THE RULE of a ring of words: what the words and the views of the two ends have to do with one another.
use Rattle.std.specs.Prelude.{◌≡◌, ◌⊎◌, ℕ, ◌+◌, ◌%◌, ◌^◌, ◌<◌, ◌≤◌, true, false, List, [], ◌∷◌, ◌++◌, length, All, slice_index, Some, None}
use Rattle.ring_words.specs.declared.index.BadIndex.{BadIndex}
use Rattle.ring_words.specs.declared.view.View.{View}
use Rattle.ring_words.specs.declared.view.Role.TheVariants.{Fresh, Producer, Consumer, Kept}
use Rattle.ring_words.specs.Indices.{index_of}
use Rattle.ring_words.specs.Views.{with_role, closed, spent}

-- ALWAYS, whoever pokes: a byte in each of the first 1024 words, 32 bits in PROD and in CONS, and a word more, NOTE
pub record IsWords (words : List ℕ) : Type 0 where
  pub count : length words ≡ 1027
  pub bytes : (place : ℕ) → place < 1024 → slice_index words place < 256
  pub prod : slice_index words 1024 < 2 ^ 32
  pub cons : slice_index words 1025 < 2 ^ 32

-- one list begins another
abbrev pub Begins : List ℕ → List ℕ → Type 0
Begins front whole = (rest : List ℕ) × (whole ≡ front ++ rest)

-- the value of the last note, or else this one
abbrev pub last_note : ℕ → List (ℕ × ℕ) → ℕ
last_note value [] = value
last_note value (note ∷ notes) = last_note note.0 notes

-- the value was noted, when at most this many bytes were sent
abbrev pub IsNoted : List (ℕ × ℕ) → ℕ → ℕ → Type 0
IsNoted notes value most =
    (before : List (ℕ × ℕ)) × (length_then : ℕ) × (after : List (ℕ × ℕ)) × (notes ≡ before ++ (value, length_then) ∷ after) × (length_then ≤ most)

-- WHILE NOBODY POKED, what the views say of one another
pub record Agree (producer consumer : View) : Type 0 where
  -- what was read begins what was sent, and between the two lies what the consumer saw
  pub begins : Begins consumer.read producer.sent
  pub seen_read : length consumer.read ≤ consumer.seen
  pub seen_sent : consumer.seen ≤ length producer.sent
  -- a note has the length of what was sent before it
  pub notes : All (λ note. note.1 ≤ length producer.sent) producer.notes
  -- what was heard was noted
  pub heard : (consumer.heard ≡ 0) ⊎ IsNoted producer.notes consumer.heard (length producer.sent)
  -- what was heard before the last look at PROD was noted when no more was sent than this look saw
  pub whole : (consumer.whole ≡ 0) ⊎ IsNoted producer.notes consumer.whole consumer.seen
  -- neither end met bad indices, and the producer never saw a free byte go
  pub put_well : producer.bad_put ≡ None
  pub took_well : consumer.bad_take ≡ None
  pub not_short : producer.short ≡ false

-- and what the words say of them
pub record Linked (words : List ℕ) (producer consumer : View) : Type 0 where
  pub agree : Agree producer consumer
  pub prod : slice_index words 1024 ≡ index_of producer.start (length producer.sent)
  pub cons : slice_index words 1025 ≡ index_of producer.start consumer.freed
  pub note : slice_index words 1026 ≡ last_note 0 producer.notes
  -- the ring has room for what is not freed
  pub freed : consumer.freed ≤ length consumer.read
  pub room : length producer.sent + length producer.staged ≤ consumer.freed + 1024
  pub seen : producer.seen ≤ consumer.freed
  -- what is not freed stands in its places, given over or staged
  pub bytes : (n : ℕ) → consumer.freed ≤ n → n < length producer.sent + length producer.staged
      → slice_index words ((producer.start + n) % 1024) ≡ slice_index (producer.sent ++ producer.staged) n

-- TWO ENDS AT WORK
pub record Work (words : List ℕ) (producer consumer : View) : Type 0 where
  pub start : consumer.start ≡ producer.start
  pub content : IsWords words
  pub linked : producer.poked ≡ false → consumer.poked ≡ false → Linked words producer consumer

-- the views of two ends that were at work were joined in this one
pub record IsClosed (view : View) : Type 0 where
  pub words : List ℕ
  pub producer : View
  pub consumer : View
  pub worked : Work words producer consumer
  pub joined : view ≡ closed producer consumer

-- one view before it is cut in two, two ends at work, their joined view beside a spent one, and at last that view twice:
-- one goes with the ring, the other is kept
abbrev pub IsRing : List ℕ → List View → Type 0
IsRing words [] = ⊥
IsRing words (view ∷ []) = (view.role ≡ Fresh) × Work words (with_role Producer view) (with_role Consumer view)
IsRing words (one ∷ two ∷ []) =
    ((one.role ≡ Producer) × (two.role ≡ Consumer) × Work words one two) ⊎ (IsClosed one × (two ≡ spent))
IsRing words (one ∷ two ∷ three ∷ []) =
    (view : View) × IsClosed view × (one ≡ with_role Kept view) × (two ≡ spent) × (three ≡ with_role Kept view)
IsRing words (one ∷ two ∷ three ∷ four ∷ more) = ⊥

-- where an end met bad indices, or the producer saw a free byte go, somebody poked
pub record IsBlamed (producer consumer : View) : Type 0 where
  pub bad_put : (bad : BadIndex) → producer.bad_put ≡ Some bad → (producer.poked ≡ true) ⊎ (consumer.poked ≡ true)
  pub bad_take : (bad : BadIndex) → consumer.bad_take ≡ Some bad → (producer.poked ≡ true) ⊎ (consumer.poked ≡ true)
  pub short : producer.short ≡ true → (producer.poked ≡ true) ⊎ (consumer.poked ≡ true)

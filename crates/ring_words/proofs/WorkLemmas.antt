-- Each step keeps the rule of two ends at work.
use Rattle.std.proofs.Common.{◌≡◌, ℕ, ◌+◌, ◌-◌, ◌%◌, ◌^◌, ◌<◌, ◌≤◌, ◌≢◌, ◌⊎◌, false, None, List, [], ◌∷◌, ◌++◌, length, get_or, set, sym, refl, ap, subst, ◌∙◌, inl, inr, le_refl, arith, append_assoc, append-nil, length-append}
use Rattle.std.proofs.lemmas.List.{get_or-set_same, get_or-set_other, get_or_append_left, get_or-append_right}
use Rattle.std.proofs.lemmas.List.Elements.{All-append, All-cons, All-nil}
use Rattle.std.proofs.lemmas.Bool.{cases_lt, le-ltb}
use Rattle.std.specs.Prelude.{All, nat_lt, slice_set, slice_index}
use Rattle.ring_words.specs.declared.view.View.{View}
use Rattle.ring_words.specs.Indices.{index_of, held, is_bad}
use Rattle.ring_words.specs.Views.{put_index, take_index}
use Rattle.ring_words.specs.Steps.{after_load_cons, after_store_byte, after_store_prod, after_store_note, after_load_prod, after_load_byte, after_store_cons, after_load_note, after_poke}
use Rattle.ring_words.specs.Rule.{IsWords, IsNoted, Begins, Agree, Work}
use Rattle.ring_words.proofs.WordLemmas.{held_of, words_byte, words_prod, words_cons, words_note, last_of_more, noted_later, noted_more, last_is_noted}

begins_length : (front whole : List ℕ) → Begins front whole → length front ≤ length whole
begins_length front whole (rest, is) = let long : length whole ≡ length front + length rest = ap length is ∙ length-append front rest in omega arith

-- the next byte of what is begun
begins_more : (front whole : List ℕ) (byte : ℕ) → Begins front whole → length front < length whole → byte ≡ slice_index whole (length front) → Begins (front ++ byte ∷ []) whole
begins_more front whole byte ([], is) more next = let long : length whole ≡ length front + 0 = ap length is ∙ length-append front [] in absurd (omega arith)
begins_more front whole byte (x ∷ rest, is) more next =
    let none : length front - length front ≡ 0 = omega arith in
    let here : slice_index whole (length front) ≡ x = ap (λ l. get_or l (length front) 0) is ∙ get_or-append_right front (x ∷ rest) (length front) (length front) 0 refl (omega arith) ∙ ap (λ k. get_or (x ∷ rest) k 0) none in
    (rest, is ∙ ap (λ b. front ++ b ∷ rest) (sym (next ∙ here)) ∙ sym (append_assoc front (byte ∷ []) rest))

module _ (ws : List ℕ) (p c : View) (work : Work ws p c) where
  -- THE PRODUCER loads CONS
  pub keeps_load_cons : Work ws (after_load_cons (slice_index ws 1025) p) c
  keeps_load_cons = record {
    start = work.start;
    content = work.content;
    linked = λ mine theirs.
        let h = work.linked mine theirs in
        let a = h.agree in
        let long = begins_length c.read p.sent a.begins in
        let freed = h.freed in
        let room = h.room in
        let seen = h.seen in
        let u : held (put_index p) (slice_index ws 1025) ≡ length p.sent - c.freed = rw h.cons (held_of p.start (length p.sent) c.freed (omega arith) (omega arith)) in
        let good : is_bad (put_index p) (slice_index ws 1025) ≡ false = rw u (le-ltb 1024 (length p.sent - c.freed) (omega arith)) in
        let fits : nat_lt (length p.sent - p.seen) (held (put_index p) (slice_index ws 1025)) ≡ false = rw u (le-ltb (length p.sent - p.seen) (length p.sent - c.freed) (omega arith)) in
        let now : (after_load_cons (slice_index ws 1025) p).seen ≡ c.freed = rw (good, u) (omega arith) in
        let put_well : (after_load_cons (slice_index ws 1025) p).bad_put ≡ None = rw (a.put_well, good) refl in
        let not_short : (after_load_cons (slice_index ws 1025) p).short ≡ false = rw (a.not_short, good, fits) refl in
        let seen_now : (after_load_cons (slice_index ws 1025) p).seen ≤ c.freed = omega (arith, now) in
        let agree : Agree (after_load_cons (slice_index ws 1025) p) c = assumption (a, put_well, not_short) in
        assumption (h, agree, seen_now);
  }

  -- it stores a byte in the place behind what is staged
  pub keeps_store_byte : (byte place : ℕ) → byte < 256 → place ≡ (p.start + (length p.sent + length p.staged)) % 1024 → length p.sent + length p.staged < p.seen + 1024
      → Work (slice_set ws place byte) (after_store_byte byte p) c
  keeps_store_byte byte place is_byte is_place free = record {
    start = work.start;
    content = words_byte ws work.content place byte (omega arith) is_byte;
    linked = λ mine theirs.
        let h = work.linked mine theirs in
        let count = work.content.count in
        let room = h.room in
        let seen = h.seen in
        let last = length p.sent + length p.staged in
        let longer : length (p.staged ++ byte ∷ []) ≡ length p.staged + 1 = length-append p.staged (byte ∷ []) in
        let all : p.sent ++ (p.staged ++ byte ∷ []) ≡ (p.sent ++ p.staged) ++ byte ∷ [] = sym (append_assoc p.sent p.staged (byte ∷ [])) in
        let long : length (p.sent ++ p.staged) ≡ last = length-append p.sent p.staged in
        let low : place < 1024 = omega arith in
        record {
          agree = assumption h.agree;
          prod = get_or-set_other ws place 1024 byte 0 (omega arith) ∙ h.prod;
          cons = get_or-set_other ws place 1025 byte 0 (omega arith) ∙ h.cons;
          note = get_or-set_other ws place 1026 byte 0 (omega arith) ∙ h.note;
          freed = h.freed;
          room = omega arith;
          seen = h.seen;
          bytes = λ n from to. elim (cases_lt n last) [
            | inl before ↦
                let apart : (p.start + n) % 1024 ≢ place = λ same. omega arith in
                get_or-set_other ws place ((p.start + n) % 1024) byte 0 apart ∙ h.bytes n from before ∙ sym (ap (λ l. get_or l n 0) all ∙ get_or_append_left (p.sent ++ p.staged) (byte ∷ []) 0 n (omega arith))
            | inr behind ↦
                let here : (p.start + n) % 1024 ≡ place = omega arith in
                let first : n - last ≡ 0 = omega arith in
                ap (λ k. get_or (set ws place byte) k 0) here ∙ get_or-set_same ws place byte 0 (omega arith) ∙ sym (ap (λ l. get_or l n 0) all ∙ get_or-append_right (p.sent ++ p.staged) (byte ∷ []) last n 0 long behind ∙ ap (λ k. get_or (byte ∷ []) k 0) first)
          ];
        };
  }

  -- it stores PROD
  pub keeps_store_prod : (n : ℕ) → n ≡ index_of p.start (length p.sent + length p.staged) → Work (slice_set ws 1024 n) (after_store_prod p) c
  keeps_store_prod n is = record {
    start = work.start;
    content = words_prod ws work.content n (omega arith);
    linked = λ mine theirs.
        let h = work.linked mine theirs in
        let a = h.agree in
        let room = h.room in
        let count = work.content.count in
        let long : length (p.sent ++ p.staged) ≡ length p.sent + length p.staged = length-append p.sent p.staged in
        let up : length p.sent ≤ length (p.sent ++ p.staged) = omega arith in
        let same : (p.sent ++ p.staged) ++ [] ≡ p.sent ++ p.staged = append-nil (p.sent ++ p.staged) in
        let seen_sent = a.seen_sent in
        let agree : Agree (after_store_prod p) c = record {
          begins = (a.begins.0 ++ p.staged, ap (λ l. l ++ p.staged) a.begins.1 ∙ append_assoc c.read a.begins.0 p.staged);
          seen_read = a.seen_read;
          seen_sent = omega arith;
          notes = λ k d below. let low = a.notes k d below in omega arith;
          heard = elim a.heard [ inl none ↦ inl none | inr noted ↦ inr (noted_later p.notes c.heard (length p.sent) (length (p.sent ++ p.staged)) up noted) ];
          whole = a.whole;
          put_well = a.put_well;
          took_well = a.took_well;
          not_short = a.not_short;
        } in
        record {
          agree = agree;
          prod = get_or-set_same ws 1024 n 0 (omega arith) ∙ is ∙ ap (index_of p.start) (sym long);
          cons = get_or-set_other ws 1024 1025 n 0 (omega arith) ∙ h.cons;
          note = get_or-set_other ws 1024 1026 n 0 (omega arith) ∙ h.note;
          freed = h.freed;
          room = omega arith;
          seen = h.seen;
          bytes = λ k from to.
              let below : k < length p.sent + length p.staged = omega (arith, long, to) in
              get_or-set_other ws 1024 ((p.start + k) % 1024) n 0 (omega arith) ∙ h.bytes k from below ∙ ap (λ l. get_or l k 0) (sym same);
        };
  }

  -- it stores NOTE
  pub keeps_store_note : (value : ℕ) → Work (slice_set ws 1026 value) (after_store_note value p) c
  keeps_store_note value = record {
    start = work.start;
    content = words_note ws work.content value;
    linked = λ mine theirs.
        let h = work.linked mine theirs in
        let a = h.agree in
        let count = work.content.count in
        let note : ℕ × ℕ = (value, length p.sent) in
        let one : All (λ (note : ℕ × ℕ). note.1 ≤ length p.sent) (note ∷ []) = All-cons (λ (note : ℕ × ℕ). note.1 ≤ length p.sent) note [] (le_refl (length p.sent)) (All-nil (λ (note : ℕ × ℕ). note.1 ≤ length p.sent)) in
        let agree : Agree (after_store_note value p) c = record {
          begins = a.begins;
          seen_read = a.seen_read;
          seen_sent = a.seen_sent;
          notes = All-append (λ (note : ℕ × ℕ). note.1 ≤ length p.sent) p.notes (note ∷ []) a.notes one;
          heard = elim a.heard [ inl none ↦ inl none | inr noted ↦ inr (noted_more p.notes (note ∷ []) c.heard (length p.sent) noted) ];
          whole = elim a.whole [ inl none ↦ inl none | inr noted ↦ inr (noted_more p.notes (note ∷ []) c.whole c.seen noted) ];
          put_well = a.put_well;
          took_well = a.took_well;
          not_short = a.not_short;
        } in
        record {
          agree = agree;
          prod = get_or-set_other ws 1026 1024 value 0 (omega arith) ∙ h.prod;
          cons = get_or-set_other ws 1026 1025 value 0 (omega arith) ∙ h.cons;
          note = get_or-set_same ws 1026 value 0 (omega arith) ∙ sym (last_of_more 0 p.notes note);
          freed = h.freed;
          room = h.room;
          seen = h.seen;
          bytes = λ k from to. get_or-set_other ws 1026 ((p.start + k) % 1024) value 0 (omega arith) ∙ h.bytes k from to;
        };
  }

  -- THE CONSUMER loads PROD
  pub keeps_load_prod : Work ws p (after_load_prod (slice_index ws 1024) c)
  keeps_load_prod = record {
    start = work.start;
    content = work.content;
    linked = λ mine theirs.
        let h = work.linked mine theirs in
        let a = h.agree in
        let long = begins_length c.read p.sent a.begins in
        let freed = h.freed in
        let room = h.room in
        let u : held (slice_index ws 1024) (take_index c) ≡ length p.sent - length c.read = rw (h.prod, work.start) (held_of p.start (length p.sent) (length c.read) long (omega arith)) in
        let good : is_bad (slice_index ws 1024) (take_index c) ≡ false = rw u (le-ltb 1024 (length p.sent - length c.read) (omega arith)) in
        let now : (after_load_prod (slice_index ws 1024) c).seen ≡ length p.sent = rw (good, u) (omega arith) in
        let took_well : (after_load_prod (slice_index ws 1024) c).bad_take ≡ None = rw (a.took_well, good) refl in
        let agree : Agree p (after_load_prod (slice_index ws 1024) c) = record {
          begins = a.begins;
          seen_read = omega (arith, now, long);
          seen_sent = omega (arith, now);
          notes = a.notes;
          heard = a.heard;
          whole = elim a.heard [ inl none ↦ inl none | inr noted ↦ inr (subst (IsNoted p.notes c.heard) (sym now) noted) ];
          put_well = a.put_well;
          took_well = took_well;
          not_short = a.not_short;
        } in
        assumption (h, agree);
  }

  -- it loads a byte that it saw to be sent
  pub keeps_load_byte : (place : ℕ) → place ≡ (c.start + length c.read) % 1024 → length c.read < c.seen → Work ws p (after_load_byte (slice_index ws place) c)
  keeps_load_byte place is_place there = record {
    start = work.start;
    content = work.content;
    linked = λ mine theirs.
        let h = work.linked mine theirs in
        let a = h.agree in
        let seen_sent = a.seen_sent in
        let freed = h.freed in
        let byte = slice_index ws place in
        let at : place ≡ (p.start + length c.read) % 1024 = rw (← work.start) is_place in
        let found : byte ≡ slice_index p.sent (length c.read) = ap (λ k. get_or ws k 0) at ∙ h.bytes (length c.read) h.freed (omega arith) ∙ get_or_append_left p.sent p.staged 0 (length c.read) (omega arith) in
        let longer : length (c.read ++ byte ∷ []) ≡ length c.read + 1 = length-append c.read (byte ∷ []) in
        let agree : Agree p (after_load_byte byte c) = record {
          begins = begins_more c.read p.sent byte a.begins (omega arith) found;
          seen_read = omega arith;
          seen_sent = a.seen_sent;
          notes = a.notes;
          heard = a.heard;
          whole = a.whole;
          put_well = a.put_well;
          took_well = a.took_well;
          not_short = a.not_short;
        } in
        let freed_now : c.freed ≤ length (c.read ++ byte ∷ []) = omega arith in
        assumption (h, agree, freed_now);
  }

  -- it stores CONS
  pub keeps_store_cons : (n : ℕ) → n ≡ index_of c.start (length c.read) → Work (slice_set ws 1025 n) p (after_store_cons c)
  keeps_store_cons n is = record {
    start = work.start;
    content = words_cons ws work.content n (omega arith);
    linked = λ mine theirs.
        let h = work.linked mine theirs in
        let count = work.content.count in
        let freed = h.freed in
        let room = h.room in
        let seen = h.seen in
        record {
          agree = assumption h.agree;
          prod = get_or-set_other ws 1025 1024 n 0 (omega arith) ∙ h.prod;
          cons = get_or-set_same ws 1025 n 0 (omega arith) ∙ is ∙ ap (λ s. index_of s (length c.read)) work.start;
          note = get_or-set_other ws 1025 1026 n 0 (omega arith) ∙ h.note;
          freed = le_refl (length c.read);
          room = omega arith;
          seen = omega arith;
          bytes = λ k from to. get_or-set_other ws 1025 ((p.start + k) % 1024) n 0 (omega arith) ∙ h.bytes k (omega arith) to;
        };
  }

  -- it loads NOTE
  pub keeps_load_note : Work ws p (after_load_note (slice_index ws 1026) c)
  keeps_load_note = record {
    start = work.start;
    content = work.content;
    linked = λ mine theirs.
        let h = work.linked mine theirs in
        let a = h.agree in
        let heard : (slice_index ws 1026 ≡ 0) ⊎ IsNoted p.notes (slice_index ws 1026) (length p.sent) =
        subst (λ v. (v ≡ 0) ⊎ IsNoted p.notes v (length p.sent)) (sym h.note) (last_is_noted p.notes 0 (length p.sent) a.notes) in
        let agree : Agree p (after_load_note (slice_index ws 1026) c) = assumption (a, heard) in
        assumption (h, agree);
  }

  -- EITHER END pokes PROD or CONS
  pub keeps_poke : (word n : ℕ) → (word ≡ 1024) ⊎ (word ≡ 1025) → n < 2 ^ 32 → IsWords (slice_set ws word n)
  keeps_poke word n (inl is) fits = rw is (words_prod ws work.content n fits)
  keeps_poke word n (inr is) fits = rw is (words_cons ws work.content n fits)

  pub keeps_poke_put : (word n : ℕ) → (word ≡ 1024) ⊎ (word ≡ 1025) → n < 2 ^ 32 → Work (slice_set ws word n) (after_poke p) c
  keeps_poke_put word n which fits = record {
    start = work.start;
    content = keeps_poke word n which fits;
    linked = λ mine theirs. absurd (cc);
  }

  pub keeps_poke_take : (word n : ℕ) → (word ≡ 1024) ⊎ (word ≡ 1025) → n < 2 ^ 32 → Work (slice_set ws word n) p (after_poke c)
  keeps_poke_take word n which fits = record {
    start = work.start;
    content = keeps_poke word n which fits;
    linked = λ mine theirs. absurd (cc);
  }

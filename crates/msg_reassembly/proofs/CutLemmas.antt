-- The messages of bytes do not depend on how they were cut.
use Rattle.std.proofs.Common.{◌≡◌, ℕ, zero, suc, ◌-◌, ◌<◌, ◌≤◌, false, List, [], ◌∷◌, ◌++◌, length, take, drop, refl, sym, ap, ap₂, subst, ◌∙◌, arith, length-drop, length-take-le}
use Rattle.std.proofs.lemmas.List.{append-nil, append_assoc, take-append-drop, take-append-le, drop-append-le, take_all, drop_all}
use Rattle.world_model.specs.Fronts.{Front, Whole, TooLong, Part, front, is_part}
use Rattle.msg_reassembly.specs.Inboxes.{first_and, more_in_front, messages_behind, messages_of}
use Rattle.msg_reassembly.specs.Cuts.{is_whole, joined, Splits, SplitsOneWay, Move, Feed, Leave, Inbox, empty_inbox, without_front, moved, all_moved, fed, CutsDoNotMatter}
use Rattle.msg_reassembly.proofs.FrontLemmas.{front-append, is_front_of}

-- THE MESSAGES OF BYTES, one step
messages-behind : (n : ℕ) (bytes : List ℕ) → messages_behind n bytes ≡ messages_of (drop n bytes)
messages-behind zero bytes = refl
messages-behind (suc n) [] = refl
messages-behind (suc n) (b ∷ bs) = messages-behind n bs

drop_rest : (n b : ℕ) (bs : List ℕ) → 0 < n → drop (n - 1) bs ≡ drop n (b ∷ bs)
drop_rest zero b bs h = absurd (omega arith)
drop_rest (suc n) b bs h = let e : suc n - 1 ≡ n = omega arith in ap (λ m. drop m bs) e

pub messages-first : (bytes : List ℕ) (n : ℕ) → front bytes ≡ Whole n → messages_of bytes ≡ take n bytes ∷ messages_of (drop n bytes)
messages-first [] n e = cc
messages-first (b ∷ bs) n e =
    let there = is_front_of (b ∷ bs) n e in
    ap (λ f. first_and f (b ∷ bs) (messages_behind (more_in_front f bs) bs)) e
    ∙ ap (λ ms. take n (b ∷ bs) ∷ ms) (messages-behind (n - 1) bs ∙ ap messages_of (drop_rest n b bs (omega (arith, there.header))))

first_and-none : (f : Front) (bytes : List ℕ) (more : List (List ℕ)) → is_whole f ≡ false → first_and f bytes more ≡ []
first_and-none (Whole n) bytes more h = cc
first_and-none (TooLong len) bytes more h = refl
first_and-none Part bytes more h = refl

pub messages-none : (bytes : List ℕ) → is_whole (front bytes) ≡ false → messages_of bytes ≡ []
messages-none [] h = refl
messages-none (b ∷ bs) h =
    first_and-none (front (b ∷ bs)) (b ∷ bs) (messages_behind (more_in_front (front (b ∷ bs)) bs) bs) h

full : (bytes : List ℕ) (n : ℕ) → front bytes ≡ Whole n → is_part (front bytes) ≡ false
full bytes n e = ap is_part e

-- a whole front is the first message, whatever follows
messages-append : (bytes more : List ℕ) (n : ℕ) → front bytes ≡ Whole n → messages_of (bytes ++ more) ≡ take n bytes ∷ messages_of (drop n bytes ++ more)
messages-append bytes more n e =
    let there = is_front_of bytes n e in
    messages-first (bytes ++ more) n (front-append bytes more (full bytes n e) ∙ e)
    ∙ ap₂ ◌∷◌ (take-append-le n bytes more there.within) (ap messages_of (drop-append-le n bytes more there.within))

-- MOVES
-- what left and what is whole are the messages of what was there and what comes
abbrev Agrees : List Move → Inbox → Type 0
Agrees moves inbox =
    (all_moved inbox moves).left ++ messages_of (all_moved inbox moves).bytes ≡ inbox.left ++ messages_of (inbox.bytes ++ fed moves)

agrees_by : (moves : List Move) (inbox : Inbox) (f : Front) → front inbox.bytes ≡ f → Agrees moves (without_front f inbox) → (all_moved (without_front f inbox) moves).left ++ messages_of (all_moved (without_front f inbox) moves).bytes ≡ inbox.left ++ messages_of (inbox.bytes ++ fed moves)
agrees_by moves inbox (Whole n) e h =
    h ∙ append_assoc inbox.left (take n inbox.bytes ∷ []) (messages_of (drop n inbox.bytes ++ fed moves))
    ∙ ap (λ ms. inbox.left ++ ms) (sym (messages-append inbox.bytes (fed moves) n e))
agrees_by moves inbox (TooLong len) e h = h
agrees_by moves inbox Part e h = h

agrees : (moves : List Move) (inbox : Inbox) → Agrees moves inbox
agrees [] inbox = ap (λ b. inbox.left ++ messages_of b) (sym (append-nil inbox.bytes))
agrees (Feed bytes ∷ moves) inbox =
    agrees moves (moved inbox (Feed bytes)) ∙ ap (λ b. inbox.left ++ messages_of b) (append_assoc inbox.bytes bytes (fed moves))
agrees (Leave ∷ moves) inbox =
    agrees_by moves inbox (front inbox.bytes) refl (agrees moves (without_front (front inbox.bytes) inbox))

pub cuts_do_not_matter : CutsDoNotMatter
cuts_do_not_matter moves = agrees moves empty_inbox

-- ONE WAY
none_found : (bytes : List ℕ) → is_whole (front bytes) ≡ false → (rest : List ℕ) × Splits bytes (messages_of bytes) rest
none_found bytes h =
    (bytes, subst (λ ms. Splits bytes ms bytes) (sym (messages-none bytes h)) (record { whole = refl; each = tt; ends = h }))

one_found : (bytes : List ℕ) (n : ℕ) → front bytes ≡ Whole n → (rest : List ℕ) × Splits (drop n bytes) (messages_of (drop n bytes)) rest → (rest : List ℕ) × Splits bytes (messages_of bytes) rest
one_found bytes n e (rest, splits) =
    let there = is_front_of bytes n e in (
      rest,
      subst (λ ms. Splits bytes ms rest) (sym (messages-first bytes n e)) (record {
        whole = sym (take-append-drop n bytes) ∙ ap (λ d. take n bytes ++ d) splits.whole ∙ sym (append_assoc (take n bytes) (joined (messages_of (drop n bytes))) rest);
        each = (there.alone ∙ ap Whole (sym (length-take-le n bytes there.within)), splits.each);
        ends = splits.ends;
      }),
    )

found_by : (bytes : List ℕ) (f : Front) → front bytes ≡ f → ((n : ℕ) → front bytes ≡ Whole n → (rest : List ℕ) × Splits (drop n bytes) (messages_of (drop n bytes)) rest) → (rest : List ℕ) × Splits bytes (messages_of bytes) rest
found_by bytes (Whole n) e behind = one_found bytes n e (behind n e)
found_by bytes (TooLong len) e behind = none_found bytes (ap is_whole e)
found_by bytes Part e behind = none_found bytes (ap is_whole e)

found_within : (most : ℕ) (bytes : List ℕ) → length bytes ≤ most → (rest : List ℕ) × Splits bytes (messages_of bytes) rest
found_within zero bytes few =
    found_by bytes (front bytes) refl (λ n e. let there = is_front_of bytes n e in absurd (omega (arith, there.header, there.within)))
found_within (suc most) bytes few =
    found_by bytes (front bytes) refl (λ n e. let there = is_front_of bytes n e in found_within most (drop n bytes) (omega (arith, there.header, length-drop n bytes)))

only : (bytes : List ℕ) (messages : List (List ℕ)) (rest : List ℕ) → Splits bytes messages rest → messages ≡ messages_of bytes
only bytes [] rest h = sym (messages-none bytes (ap (λ b. is_whole (front b)) h.whole ∙ h.ends))
only bytes (m ∷ ms) rest h =
    let regrouped : bytes ≡ m ++ (joined ms ++ rest) = h.whole ∙ append_assoc m (joined ms) rest in
    let first = messages-append m (joined ms ++ rest) (length m) h.each.0 in
    let all : take (length m) m ≡ m = take_all (length m) m (omega arith) in
    let none : drop (length m) m ≡ [] = drop_all (length m) m (omega arith) in
    sym (ap messages_of regrouped ∙ first ∙ ap₂ ◌∷◌ all (ap (λ d. messages_of (d ++ (joined ms ++ rest))) none ∙ sym (only (joined ms ++ rest) ms rest (record { whole = refl; each = h.each.1; ends = h.ends }))))

pub splits_one_way : SplitsOneWay
splits_one_way bytes = record { found = found_within (length bytes) bytes (omega arith); only = only bytes }

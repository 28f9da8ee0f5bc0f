-- A reply and what is owed beside it, joined to what is unsent.
use Rattle.std.proofs.Common.{◌≡◌, ℕ, ◌+◌, ◌<◌, ◌≤◌, ◌==◌, Bool, true, false, cond, not, List, [], ◌∷◌, ◌++◌, length, map, filter, flat_map, nat_lt, Option, Some, None, Result, Ok, Err, refl, sym, ap, ap₂, subst, ◌∙◌, arith, ltb-false, length-append, eqb-true, eq-eqb}
use Rattle.std.proofs.lemmas.Bool.{le-ltb}
use Rattle.std.specs.List.{AllByRecursion}
use Rattle.std.specs.Ordering.{nat_cmp}
use Rattle.std.specs.Cmp.{unsigned_tied}
use Rattle.std.specs.declared.cmp.Ordering.TheVariants.{Less, Equal, Greater}
use Rattle.std.specs.FinMap.{find, put, is_sorted, nat_cmp-IsAntisymmetric}
use Rattle.std.specs.FinMap.Entries.{where_key, by_order, below_all}
use Rattle.std.proofs.lemmas.Bool.{and_parts}
use Rattle.xs_model.specs.declared.message.Header.{Header}
use Rattle.xs_model.specs.declared.message.WireErr.{WireErr}
use Rattle.xs_model.specs.Messages.{Message, message_bytes}
use Rattle.xs_model.proofs.Maps.{not_Some}
use Rattle.machine_model.specs.declared.bounds.TheConstants.{HELD_LIMIT, CROWD_LIMIT}
use Rattle.machine_model.specs.Machine.{Send, reply_message}
use Rattle.machine_model.specs.History.{Unsent, unsent_to, sent_to, crowded}
use Rattle.out_queues.specs.Queues.{Queue}
use Rattle.conn_rows.specs.Queued.{HasRoom}
use Rattle.conn_rows.specs.Sending.{sent_by, count_by, joined_by, HasRoomFor, crowding}
use Rattle.conn_rows.proofs.WalkLemmas.{behind, none_behind, apart_first}
use Rattle.daemon.specs.Acts.{reply_length}
use Rattle.daemon.specs.Peers.{message_limit}

-- HOW MANY bytes are sent
count_sent : (c n : ℕ) (reply : List ℕ) (owed : Unsent) (d : ℕ) → length reply ≡ n → length (sent_by c reply owed d) ≡ count_by c n owed d
count_sent c n reply owed d is = by (d == c)
  where
    by : (b : Bool) → length (cond b reply [] ++ unsent_to d owed) ≡ cond b n 0 + length (unsent_to d owed)
    by true = simp length-append (ap (λ k. k + length (unsent_to d owed)) is)
    by false = omega arith

pub reply_counts : (head : Header) (reply : Result (List ℕ) WireErr) → length (message_bytes (reply_message head reply)) ≡ reply_length reply
reply_counts head (Ok payload) = omega arith
reply_counts head (Err error) = omega arith

-- WHO IS CROWDED once they are joined
pub crowded_joined : (c n : ℕ) (reply : List ℕ) (owed : Unsent) → length reply ≡ n → (unsent : Unsent) → crowded (joined_by c reply owed unsent) ≡ crowding c n owed unsent
crowded_joined c n reply owed is [] = refl
crowded_joined c n reply owed is (e ∷ unsent) =
    ap₂ (λ k (r : Option ℕ). cond (nat_lt CROWD_LIMIT k) (Some e.0) r)
    (length-append e.1 (sent_by c reply owed e.0) ∙ ap (λ k. length e.1 + k) (count_sent c n reply owed e.0 is))
    (crowded_joined c n reply owed is unsent)

-- nobody is, so nobody has too many
pub all_short : (unsent : Unsent) → crowded unsent ≡ None → AllByRecursion (λ e. length e.1 ≤ CROWD_LIMIT) unsent
all_short [] h = tt
all_short (e ∷ unsent) h =
    elim (nat_lt CROWD_LIMIT (length e.1)) as (λ b. nat_lt CROWD_LIMIT (length e.1) ≡ b → cond b (Some e.0) (crowded unsent) ≡ None → (length e.1 ≤ CROWD_LIMIT) × AllByRecursion (λ e. length e.1 ≤ CROWD_LIMIT) unsent) [
      | true ↦ λ t is. not_Some (sym is)
      | false ↦ λ t is. (ltb-false CROWD_LIMIT (length e.1) t, all_short unsent is)
    ] refl h

-- NOTHING OWED: a short reply crowds nobody
module _ (c n : ℕ) where
  -- what holds of the bytes that are found holds of each entry of this id
  each_found : (P : List ℕ → Type 0) (es : Unsent) → is_sorted nat_cmp es ≡ true → ((b : List ℕ) → find nat_cmp c es ≡ Some b → P b) → AllByRecursion (λ e. (e.0 == c) ≡ true → P e.1) es
  each_found P [] s f = tt
  each_found P (e ∷ es) s f =
      let parts = and_parts (below_all nat_cmp e.0 es) (is_sorted nat_cmp es) s in (
        λ t. f e.1 (ap (λ b. cond b (Some e.1) (find nat_cmp c es)) (unsigned_tied c e.0 ∙ eq-eqb c e.0 (sym (eqb-true e.0 c t)))),
        each_found P es parts.1 (λ b there. f b (later parts.0 (c == e.0) refl b there)),
      )
    where
      later : below_all nat_cmp e.0 es ≡ true → (x : Bool) → (c == e.0) ≡ x → (b : List ℕ) → find nat_cmp c es ≡ Some b → find nat_cmp c (e ∷ es) ≡ Some b
      later below true t b there = not_Some (sym (none_behind c es (subst (λ k. AllByRecursion (λ (d : ℕ × List ℕ). k < d.0) es) (sym (eqb-true c e.0 t)) (behind e.0 es below))) ∙ there)
      later below false t b there = ap (λ x. cond x (Some e.1) (find nat_cmp c es)) (unsigned_tied c e.0 ∙ t) ∙ there

  step_short : (b : Bool) (x m : ℕ) → cond b (x + n ≤ m) (x ≤ m) → x + (cond b n 0 + 0) ≤ m
  step_short true x m h = omega arith
  step_short false x m h = omega arith

  short_each : (es : Unsent) → AllByRecursion (λ e. length e.1 ≤ CROWD_LIMIT) es → AllByRecursion (λ e. (e.0 == c) ≡ true → length e.1 + n ≤ CROWD_LIMIT) es → crowding c n [] es ≡ None
  short_each [] s f = refl
  short_each (e ∷ es) s f = ap₂ (λ (b : Bool) (r : Option ℕ). cond b (Some e.0) r) (le-ltb CROWD_LIMIT (length e.1 + count_by c n [] e.0) (fits (e.0 == c) refl)) (short_each es s.1 f.1)
    where
      fits : (b : Bool) → (e.0 == c) ≡ b → length e.1 + (cond b n 0 + 0) ≤ CROWD_LIMIT
      fits true t = step_short true (length e.1) CROWD_LIMIT (f.0 t)
      fits false t = step_short false (length e.1) CROWD_LIMIT s.0

  pub nobody_crowded : (unsent : Unsent) → is_sorted nat_cmp unsent ≡ true → AllByRecursion (λ e. length e.1 ≤ CROWD_LIMIT) unsent → ((bytes : List ℕ) → find nat_cmp c unsent ≡ Some bytes → length bytes + n ≤ CROWD_LIMIT)
      → crowding c n [] unsent ≡ None
  nobody_crowded unsent rising short few = short_each unsent short (each_found (λ b. length b + n ≤ CROWD_LIMIT) unsent rising few)

-- whoever may ask has room for a reply
pub few_and_reply : (x n : ℕ) → x < HELD_LIMIT → n ≤ message_limit → x + n ≤ CROWD_LIMIT
few_and_reply x n few short = omega arith

-- ROOM for a reply alone, and for a shorter one
pub room_alone : (c n : ℕ) (queues : List (ℕ × Queue)) → HasRoom c n queues → HasRoomFor c n [] queues
room_alone c n queues room d queue found = by (d == c) refl
  where
    by : (b : Bool) → (d == c) ≡ b → cond b n 0 + 0 ≤ queue.spare
    by true t = let fits = room queue (ap (λ k. find nat_cmp k queues) (sym (eqb-true d c t)) ∙ found) in omega arith
    by false t = omega arith

pub room_shorter : (c n m : ℕ) (owed : Unsent) (queues : List (ℕ × Queue)) → m ≤ n → HasRoomFor c n owed queues → HasRoomFor c m owed queues
room_shorter c n m owed queues less room d queue found = by (d == c) (room d queue found)
  where
    by : (b : Bool) → cond b n 0 + length (unsent_to d owed) ≤ queue.spare → cond b m 0 + length (unsent_to d owed) ≤ queue.spare
    by true h = omega (arith, less, h)
    by false h = h

-- WHAT A STEP SENDS, by the reply and by what is owed
pub sent_so : (c : ℕ) (reply : Message) (sends : List Send) (owed : Unsent) → ((d : ℕ) → sent_to d sends ≡ unsent_to d owed) → (d : ℕ) → sent_to d ((c, reply) ∷ sends) ≡ sent_by c (message_bytes reply) owed d
sent_so c reply sends owed same d = by (d == c)
  where
    by : (b : Bool) → flat_map (λ (s : Send). message_bytes s.1) (cond b ((c, reply) ∷ filter (λ (s : Send). d == s.0) sends) (filter (λ (s : Send). d == s.0) sends)) ≡ cond b (message_bytes reply) [] ++ unsent_to d owed
    by true = ap (λ l. message_bytes reply ++ l) (same d)
    by false = same d

pub joined_so : {X : Type 0} (c : ℕ) (reply : Message) (sends : List Send) (owed unsent : Unsent) → ((d : ℕ) → sent_to d sends ≡ unsent_to d owed) → (es : List (ℕ × X))
    → map {B = ℕ × List ℕ} (λ e. (e.0, unsent_to e.0 unsent ++ sent_to e.0 ((c, reply) ∷ sends))) es ≡ joined_by c (message_bytes reply) owed (map (λ e. (e.0, unsent_to e.0 unsent)) es)
joined_so c reply sends owed unsent same [] = refl
joined_so c reply sends owed unsent same (e ∷ es) =
    ap₂ (λ (b : List ℕ) (l : Unsent). (e.0, unsent_to e.0 unsent ++ b) ∷ l) (sent_so c reply sends owed same e.0) (joined_so c reply sends owed unsent same es)

-- ONE CONNECTION MORE that is sent nothing, or one less, crowds the same
module _ (c n : ℕ) (owed : Unsent) (id : ℕ) (nothing : count_by c n owed id ≡ 0) where
  free_of : (k : ℕ) → k ≤ CROWD_LIMIT → nat_lt CROWD_LIMIT (k + count_by c n owed id) ≡ false
  free_of k fits = ap (λ m. nat_lt CROWD_LIMIT (k + m)) nothing ∙ le-ltb CROWD_LIMIT (k + 0) (omega arith)

  pub crowding_more : (unsent : Unsent) → find nat_cmp id unsent ≡ None → crowding c n owed (put nat_cmp id [] unsent) ≡ crowding c n owed unsent
  crowding_more [] absent = ap (λ b. cond b (Some id) None) (free_of 0 (omega arith))
  crowding_more (e ∷ es) absent =
      let rest : Option ℕ = crowding c n owed (e ∷ es) in
      let parts = apart_first id e es absent in
      elim (nat_cmp id e.0) as (λ o. nat_cmp id e.0 ≡ o → crowding c n owed (by_order o ((id, []) ∷ e ∷ es) ((e.0, []) ∷ es) (e ∷ put nat_cmp id [] es)) ≡ rest) [
        | Less ↦ λ _. ap (λ b. cond b (Some id) rest) (free_of 0 (omega arith))
        | Equal ↦ λ t. absurd (parts.0 (sym (nat_cmp-IsAntisymmetric id e.0 t)))
        | Greater ↦ λ _. ap (λ r. cond (nat_lt CROWD_LIMIT (length e.1 + count_by c n owed e.0)) (Some e.0) r) (crowding_more es parts.1)
      ] refl

  pub crowding_less : (unsent : Unsent) → AllByRecursion (λ e. length e.1 ≤ CROWD_LIMIT) unsent → crowding c n owed (where_key nat_cmp (λ key. not (id == key)) unsent) ≡ crowding c n owed unsent
  crowding_less [] short = refl
  crowding_less (e ∷ es) short =
      let left : Unsent = where_key nat_cmp (λ key. not (id == key)) es in
      elim (id == e.0) as (λ b. (id == e.0) ≡ b → crowding c n owed (cond (not b) (e ∷ left) left) ≡ crowding c n owed (e ∷ es)) [
        | true ↦ λ t. crowding_less es short.1
            ∙ sym (ap (λ b. cond b (Some e.0) (crowding c n owed es)) (subst (λ k. nat_lt CROWD_LIMIT (length e.1 + count_by c n owed k) ≡ false) (eqb-true id e.0 t) (free_of (length e.1) short.0)))
        | false ↦ λ t. ap (λ r. cond (nat_lt CROWD_LIMIT (length e.1 + count_by c n owed e.0)) (Some e.0) r) (crowding_less es short.1)
      ] refl

-- who is sent nothing
pub nothing_for : (c n : ℕ) (owed : Unsent) (id : ℕ) → (id == c) ≡ false → unsent_to id owed ≡ [] → count_by c n owed id ≡ 0
nothing_for c n owed id apart none = λ i. cond (apart i) n 0 + length (none i)

-- Handovers one after the other, and what the vault took and gave.
use Rattle.std.proofs.Common.{◌≡◌, ◌⊎◌, ℕ, zero, suc, ◌+◌, ◌-◌, ◌^◌, ◌≤◌, min, true, false, cond, List, [], ◌∷◌, ◌++◌, length, take, drop, map, inl, inr, refl, sym, ap, subst, ◌∙◌, arith}
use Rattle.std.proofs.lemmas.Bool.{false≢true}
use Rattle.std.proofs.lemmas.List.{length-append, take-append-le, drop-append-le}
use Rattle.std.specs.List.{AllByRecursion}
use Rattle.xs_base.specs.Vault.{Gains, Stays}
use Rattle.machine_model.proofs.Lists.{all_append}
use Rattle.world_model.specs.declared.Said.{Said}
use Rattle.world_model.specs.declared.Said.TheVariants as said
use Rattle.world_model.specs.Worlds.{World, Event}
use Rattle.handover.specs.Hands.{Told, IsLater, MayGain}
use Rattle.world_core.specs.Handovers.{HandsAs}
use Rattle.xs_drive.specs.Vaults.{images, is_answer, AllHand, MayTake, MayHand, is_fault, faults_in, RoseBy, tells_of_change, NoneChanged, HandsOn}

-- ONE HANDOVER: whatever it says, the vault took the image or not, and gave a string or none
pub may_take : (image : List ℕ) (v : Told) (s : Said) (n : Told) → HandsAs image v s n → MayTake image v n
may_take image v said.Handed n h = record { later = h.later; put = inr h.put; got = inr (image, h.got) }
may_take image v said.RefusedFault n h = record { later = h.later; put = h.put; got = inl h.got }
may_take image v (said.RefusedChanged at put got) n h = record { later = h.later; put = inr h.put; got = inr (h.string, h.got) }
may_take image v said.NoMemory n h = record { later = h.later; put = h.put; got = gained h.got }
  where
    gained : MayGain v.gets n.gets image → Stays v.gets n.gets ⊎ ((string : List ℕ) × Gains v.gets n.gets string)
    gained (inl stays) = inl stays
    gained (inr gains) = inr (image, gains)
may_take image v said.Gone n h = absurd h
may_take image v (said.Queued k) n h = absurd h
may_take image v (said.Put k) n h = absurd h
may_take image v said.InFull n h = absurd h
may_take image v (said.DroppedIndex prod cons) n h = absurd h
may_take image v (said.Took k) n h = absurd h
may_take image v said.Part n h = absurd h
may_take image v (said.DroppedLength len) n h = absurd h
may_take image v (said.Held unsent) n h = absurd h
may_take image v (said.Crowded conn) n h = absurd h
may_take image v said.Done n h = absurd h
may_take image v said.NoneQueued n h = absurd h
may_take image v said.NoSpace n h = absurd h
may_take image v (said.Sent k) n h = absurd h
may_take image v (said.Got k) n h = absurd h
may_take image v said.Poked n h = absurd h
may_take image v (said.Page a b c d e) n h = absurd h

-- where there was memory it is an answer
pub answers : (image : List ℕ) (v : Told) (s : Said) (n : Told) → (s ≡ said.NoMemory → ⊥) → HandsAs image v s n → is_answer s ≡ true
answers image v said.Handed n found h = refl
answers image v said.RefusedFault n found h = refl
answers image v (said.RefusedChanged at put got) n found h = refl
answers image v said.NoMemory n found h = absurd (found refl)
answers image v said.Gone n found h = absurd h
answers image v (said.Queued k) n found h = absurd h
answers image v (said.Put k) n found h = absurd h
answers image v said.InFull n found h = absurd h
answers image v (said.DroppedIndex prod cons) n found h = absurd h
answers image v (said.Took k) n found h = absurd h
answers image v said.Part n found h = absurd h
answers image v (said.DroppedLength len) n found h = absurd h
answers image v (said.Held unsent) n found h = absurd h
answers image v (said.Crowded conn) n found h = absurd h
answers image v said.Done n found h = absurd h
answers image v said.NoneQueued n found h = absurd h
answers image v said.NoSpace n found h = absurd h
answers image v (said.Sent k) n found h = absurd h
answers image v (said.Got k) n found h = absurd h
answers image v said.Poked n found h = absurd h
answers image v (said.Page a b c d e) n found h = absurd h

-- FAULTS that were counted, one more
add_rise : (m a b k now : ℕ) → min (a + 1) m ≤ b → min (b + k) m ≤ now → min (a + (k + 1)) m ≤ now
add_rise m a b k now one more = omega (arith, one, more)

keep_rise : (m a b k now : ℕ) → a ≤ b → min (b + k) m ≤ now → min (a + k) m ≤ now
keep_rise m a b k now counts more = omega (arith, counts, more)

rise : (image : List ℕ) (v : Told) (s : Said) (b : Told) (k now : ℕ) → HandsAs image v s b → RoseBy k b.faults now → RoseBy (cond (is_fault s) (k + 1) k) v.faults now
rise image v said.Handed b k now h more = keep_rise (2 ^ 64 - 1) v.faults b.faults k now h.later.counts more
rise image v said.RefusedFault b k now h more = add_rise (2 ^ 64 - 1) v.faults b.faults k now h.rose more
rise image v (said.RefusedChanged at put got) b k now h more = keep_rise (2 ^ 64 - 1) v.faults b.faults k now h.later.counts more
rise image v said.NoMemory b k now h more = keep_rise (2 ^ 64 - 1) v.faults b.faults k now h.later.counts more
rise image v said.Gone b k now h more = absurd h
rise image v (said.Queued n) b k now h more = absurd h
rise image v (said.Put n) b k now h more = absurd h
rise image v said.InFull b k now h more = absurd h
rise image v (said.DroppedIndex prod cons) b k now h more = absurd h
rise image v (said.Took n) b k now h more = absurd h
rise image v said.Part b k now h more = absurd h
rise image v (said.DroppedLength len) b k now h more = absurd h
rise image v (said.Held unsent) b k now h more = absurd h
rise image v (said.Crowded conn) b k now h more = absurd h
rise image v said.Done b k now h more = absurd h
rise image v said.NoneQueued b k now h more = absurd h
rise image v said.NoSpace b k now h more = absurd h
rise image v (said.Sent n) b k now h more = absurd h
rise image v (said.Got n) b k now h more = absurd h
rise image v said.Poked b k now h more = absurd h
rise image v (said.Page p q r t e) b k now h more = absurd h

-- an honest vault changed nothing
unchanged : (image : List ℕ) (v : Told) (s : Said) (n : Told) → HandsAs image v s n → v.honest ≡ true → tells_of_change s ≡ false
unchanged image v said.Handed n h honest = refl
unchanged image v said.RefusedFault n h honest = refl
unchanged image v (said.RefusedChanged at put got) n h honest = absurd (false≢true (sym h.dishonest ∙ honest))
unchanged image v said.NoMemory n h honest = refl
unchanged image v said.Gone n h honest = absurd h
unchanged image v (said.Queued k) n h honest = absurd h
unchanged image v (said.Put k) n h honest = absurd h
unchanged image v said.InFull n h honest = absurd h
unchanged image v (said.DroppedIndex prod cons) n h honest = absurd h
unchanged image v (said.Took k) n h honest = absurd h
unchanged image v said.Part n h honest = absurd h
unchanged image v (said.DroppedLength len) n h honest = absurd h
unchanged image v (said.Held unsent) n h honest = absurd h
unchanged image v (said.Crowded conn) n h honest = absurd h
unchanged image v said.Done n h honest = absurd h
unchanged image v said.NoneQueued n h honest = absurd h
unchanged image v said.NoSpace n h honest = absurd h
unchanged image v (said.Sent k) n h honest = absurd h
unchanged image v (said.Got k) n h honest = absurd h
unchanged image v said.Poked n h honest = absurd h
unchanged image v (said.Page a b c d e) n h honest = absurd h

-- SEVERAL HANDOVERS, and others after them
pub hands_both : (gs : List (List ℕ)) (v : Told) (ss : List Said) (m : Told) (hs : List (List ℕ)) (ts : List Said) (n : Told) → AllHand gs v ss m → AllHand hs m ts n → AllHand (gs ++ hs) v (ss ++ ts) n
hands_both [] v [] m hs ts n a b = subst (λ (t : Told). AllHand hs t ts n) a b
hands_both [] v (s ∷ ss) m hs ts n a b = absurd a
hands_both (g ∷ gs) v [] m hs ts n a b = absurd a
hands_both (g ∷ gs) v (s ∷ ss) m hs ts n a b = (a.0, a.1, hands_both gs a.0 ss m hs ts n a.2 b)

-- the first k of them, and the others
pub hands_cut : (k : ℕ) (gs : List (List ℕ)) (v : Told) (ss : List Said) (n : Told) → AllHand gs v ss n
    → (between : Told) × AllHand (take k gs) v (take k ss) between × AllHand (drop k gs) between (drop k ss) n
hands_cut zero gs v ss n a = (v, refl, a)
hands_cut (suc k) [] v [] n a = (v, refl, a)
hands_cut (suc k) [] v (s ∷ ss) n a = absurd a
hands_cut (suc k) (g ∷ gs) v [] n a = absurd a
hands_cut (suc k) (g ∷ gs) v (s ∷ ss) n a =
    let rest = hands_cut k gs a.0 ss n a.2 in
    (rest.0, (a.0, a.1, rest.1), rest.2)

later_both : (a b c : Told) → IsLater a b → IsLater b c → IsLater a c
later_both a b c f g = record { counts = omega (arith, f.counts, g.counts); honest = g.honest ∙ f.honest }

all_later : (gs : List (List ℕ)) (v : Told) (ss : List Said) (n : Told) → AllHand gs v ss n → IsLater v n
all_later [] v [] n a = subst (λ (t : Told). IsLater v t) (sym a) (record { counts = omega arith; honest = refl })
all_later [] v (s ∷ ss) n a = absurd a
all_later (g ∷ gs) v [] n a = absurd a
all_later (g ∷ gs) v (s ∷ ss) n a = later_both v a.0 n (may_take g v s a.0 a.1).later (all_later gs a.0 ss n a.2)

-- where nothing was handed over, the vault may be as it is
pub may_none : (is : List (List ℕ)) (v : Told) → MayHand is v v
may_none [] v = refl
may_none (i ∷ is) v = (v, record { later = record { counts = omega arith; honest = refl }; put = inl refl; got = inl refl }, may_none is v)

may_of : (gs : List (List ℕ)) (v : Told) (ss : List Said) (n : Told) → AllHand gs v ss n → MayHand gs v n
may_of [] v [] n a = a
may_of [] v (s ∷ ss) n a = absurd a
may_of (g ∷ gs) v [] n a = absurd a
may_of (g ∷ gs) v (s ∷ ss) n a = (a.0, may_take g v s a.0 a.1, may_of gs a.0 ss n a.2)

may_both : (gs : List (List ℕ)) (v m : Told) (hs : List (List ℕ)) (n : Told) → MayHand gs v m → MayHand hs m n → MayHand (gs ++ hs) v n
may_both [] v m hs n a b = subst (λ (t : Told). MayHand hs t n) a b
may_both (g ∷ gs) v m hs n a b = (a.0, a.1, may_both gs a.0 m hs n a.2 b)

may_later : (gs : List (List ℕ)) (v n : Told) → MayHand gs v n → IsLater v n
may_later [] v n a = subst (λ (t : Told). IsLater v t) (sym a) (record { counts = omega arith; honest = refl })
may_later (g ∷ gs) v n a = later_both v a.0 n a.1.later (may_later gs a.0 n a.2)

-- the faults of all of them were counted, and those that came later too
rose_by : (gs : List (List ℕ)) (v : Told) (ss : List Said) (n : Told) → AllHand gs v ss n → RoseBy (faults_in ss) v.faults n.faults
rose_by [] v [] n a = none_rose (2 ^ 64 - 1) v.faults n.faults (ap (λ (t : Told). t.faults) a)
  where
    none_rose : (m a b : ℕ) → b ≡ a → min (a + 0) m ≤ b
    none_rose m a b same = omega (arith, same)
rose_by [] v (s ∷ ss) n a = absurd a
rose_by (g ∷ gs) v [] n a = absurd a
rose_by (g ∷ gs) v (s ∷ ss) n a = rise g v s a.0 (faults_in ss) n.faults a.1 (rose_by gs a.0 ss n a.2)

later_rose : (m a k b c : ℕ) → min (a + k) m ≤ b → b ≤ c → min (a + k) m ≤ c
later_rose m a k b c rose counts = omega (arith, rose, counts)

none_changed : (gs : List (List ℕ)) (v : Told) (ss : List Said) (n : Told) → AllHand gs v ss n → v.honest ≡ true → NoneChanged ss
none_changed [] v [] n a honest = tt
none_changed [] v (s ∷ ss) n a honest = absurd a
none_changed (g ∷ gs) v [] n a honest = absurd a
none_changed (g ∷ gs) v (s ∷ ss) n a honest =
    (unchanged g v s a.0 a.1 honest, none_changed gs a.0 ss n a.2 ((may_take g v s a.0 a.1).later.honest ∙ honest))

-- THE HANDOVERS OF A RUN, of which some were made, and others may have been
pub hands_on : (w : World) (events : List Event) (given later : List (List ℕ)) (says more : List Said) (k : ℕ) (vault now new : Told)
    → images w events ≡ given ++ later → length says ≡ length given → length more ≡ length later
    → AllByRecursion (λ said. is_answer said ≡ true) says → AllByRecursion (λ said. is_answer said ≡ true) more
    → AllHand given vault says now → MayHand later now new → k ≤ length says → HandsOn w events (says ++ more) k vault new
hands_on w events given later says more k vault now new are count rest each every all may le =
    let cut = hands_cut k given vault says now all in
    let told : take k (says ++ more) ≡ take k says = take-append-le k says more le in
    let first : take k (images w events) ≡ take k given = ap (take k) are ∙ take-append-le k given later (omega (arith, count, le)) in
    let others : drop k (images w events) ≡ drop k given ++ later = ap (drop k) are ∙ drop-append-le k given later (omega (arith, count, le)) in
    let since : MayHand (drop k given ++ later) cut.0 new = may_both (drop k given) cut.0 now later new (may_of (drop k given) cut.0 (drop k says) now cut.2) may in
    let rose = later_rose (2 ^ 64 - 1) vault.faults (faults_in (take k says)) cut.0.faults new.faults (rose_by (take k given) vault (take k says) cut.0 cut.1) (may_later (drop k given ++ later) cut.0 new since).counts in
    record {
      answers = record {
        count = omega (arith, length-append says more, length-append given later, ap length are, count, rest);
        each = all_append (λ said. is_answer said ≡ true) says more each every;
      };
      between = cut.0;
      handed = subst (λ (is : List (List ℕ)). AllHand is vault (take k (says ++ more)) cut.0) (sym first) (subst (λ (ss : List Said). AllHand (take k given) vault ss cut.0) (sym told) cut.1);
      behind = subst (λ (is : List (List ℕ)). MayHand is cut.0 new) (sym others) since;
      faults = subst (λ (ss : List Said). RoseBy (faults_in ss) vault.faults new.faults) (sym told) rose;
      honest = λ honest. subst NoneChanged (sym told) (none_changed (take k given) vault (take k says) cut.0 cut.1 honest);
    }

-- the count of the vault's faults never falls
pub hands_counts : (w : World) (events : List Event) (says : List Said) (k : ℕ) (vault new : Told) → HandsOn w events says k vault new → vault.faults ≤ new.faults
hands_counts w events says k vault new hands =
    let first = all_later (take k (images w events)) vault (take k says) hands.between hands.handed in
    let later = may_later (drop k (images w events)) hands.between new hands.behind in
    omega (arith, first.counts, later.counts)

-- the handovers to come hand over
pub all_handed : (is : List (List ℕ)) → AllByRecursion (λ said. is_answer said ≡ true) (map (λ _. said.Handed) is)
all_handed [] = tt
all_handed (i ∷ is) = (refl, all_handed is)

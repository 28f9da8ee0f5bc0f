-- A made script reads: each line behind the first three is one of events, which may stand anywhere.
use Rattle.std.proofs.Common.{◌≡◌, ℕ, zero, suc, ◌+◌, ◌%◌, ◌^◌, ◌<◌, ◌≤◌, ◌==◌, true, false, cond, List, [], ◌∷◌, ◌++◌, All, length, codes, Result, Ok, Err, is_ok, refl, sym, ap, subst, ◌∙◌, append_assoc, append-nil, arith}
use Rattle.std.specs.List.{AllByRecursion}
use Rattle.std.specs.Fmt.{decimal}
use Rattle.std.proofs.lemmas.Bool.{ne_eqb}
use Rattle.std.proofs.lemmas.List.Elements.{All-from_recursion}
use Rattle.text_model.specs.Decimal.{number_of}
use Rattle.text_model.specs.Hex.{hex, bytes_of_hex}
use Rattle.xs_model.specs.Messages.{message_bytes}
use Rattle.world_model.specs.declared.LineKind.{LineKind}
use Rattle.world_model.specs.Lines.{onto_line, lines_of}
use Rattle.world_model.specs.Worlds.{Event, Send, Handover, serve}
use Rattle.world_model.specs.Scripts.{Script, LineOf, Domain, Events, ◌>>=◌, number_or_fault, some_bytes, hex_field, one_event, domain_verb, send_verb, onto_field, fields_of, line_of, Before, placed, past_line, LineFault, onto_script, go_on, script_from}
use Rattle.guest_script.specs.Made.{Generator, drawn, domid_in, choice_in, known_to, past, request_for, sent_lines, request_lines, handover_lines, operation_lines, operations_lines, begun, make_bulk, open_bulk}
use Rattle.guest_script.specs.Laws.{MadeScriptsRead}
use Rattle.guest_script.proofs.ByteLemmas.{IsByte, IsInField, decimal_in_field, hex_in_field, made_bytes, make_bytes, open_bytes}

-- FIELDS AND LINES
first_field : (word rest : List ℕ) → AllByRecursion IsInField word → fields_of (word ++ 32 ∷ rest) ≡ word ∷ fields_of rest
first_field [] rest all = refl
first_field (b ∷ word) rest all =
    let high : 33 ≤ b = all.0 in
    ap (λ t. cond t ([] ∷ fields_of (word ++ 32 ∷ rest)) (onto_field b (fields_of (word ++ 32 ∷ rest)))) (ne_eqb b 32 (λ e. omega arith))
    ∙ ap (onto_field b) (first_field word rest all.1)

only_field : (word : List ℕ) → AllByRecursion IsInField word → fields_of word ≡ word ∷ []
only_field [] all = refl
only_field (b ∷ word) all =
    let high : 33 ≤ b = all.0 in
    ap (λ t. cond t ([] ∷ fields_of word) (onto_field b (fields_of word))) (ne_eqb b 32 (λ e. omega arith)) ∙ ap (onto_field b) (only_field word all.1)

-- fields before the end of a line
field_before : (word text line : List ℕ) (rest : List (List ℕ)) → AllByRecursion IsInField word → lines_of text ≡ line ∷ rest → lines_of (word ++ text) ≡ (word ++ line) ∷ rest
field_before [] text line rest all is = is
field_before (b ∷ word) text line rest all is =
    let high : 33 ≤ b = all.0 in
    ap (λ t. cond t ([] ∷ lines_of (word ++ text)) (onto_line b (lines_of (word ++ text)))) (ne_eqb b 10 (λ e. omega arith))
    ∙ ap (onto_line b) (field_before word text line rest all.1 is)

-- a field at the end of a line
field_at_end : (word text : List ℕ) → AllByRecursion IsInField word → lines_of (word ++ 10 ∷ text) ≡ word ∷ lines_of text
field_at_end word text all = field_before word (10 ∷ text) [] (lines_of text) all refl ∙ ap (λ (line : List ℕ). line ∷ lines_of text) (append-nil word)

-- the two lines of a request
abbrev onto_send : List (List ℕ) → List (List ℕ)
onto_send lines = onto_line 115 (onto_line 101 (onto_line 110 (onto_line 100 (onto_line 32 lines))))

abbrev onto_serve : List (List ℕ) → List (List ℕ)
onto_serve lines = onto_line 115 (onto_line 101 (onto_line 114 (onto_line 118 (onto_line 101 (onto_line 32 lines)))))

sent_are : (d : ℕ) (bytes text : List ℕ) → lines_of (sent_lines d bytes ++ text) ≡ (codes "send " ++ (decimal d ++ 32 ∷ hex bytes)) ∷ (codes "serve " ++ decimal d) ∷ lines_of text
unfolding sent_lines
sent_are d bytes text =
    let served : List ℕ = codes "serve " ++ (decimal d ++ 10 ∷ text) in
    let number = decimal_in_field d in
    let regrouped : sent_lines d bytes ++ text ≡ codes "send " ++ (decimal d ++ (32 ∷ (hex bytes ++ 10 ∷ served))) = simp append_assoc in
    ap lines_of regrouped
    ∙ ap onto_send (field_before (decimal d) (32 ∷ (hex bytes ++ 10 ∷ served)) (32 ∷ hex bytes) (lines_of served) number (ap (onto_line 32) (field_at_end (hex bytes) served (hex_in_field bytes))))
    ∙ ap (λ (ls : List (List ℕ)). (codes "send " ++ (decimal d ++ 32 ∷ hex bytes)) ∷ onto_serve ls) (field_at_end (decimal d) text number)

-- LINES OF EVENTS, before lines that read in any place
abbrev Goes : List (List ℕ) → Type 0
Goes lines = (n : ℕ) (before : Before) → is_ok (script_from n before lines) ≡ true

onto_ok : (l : LineOf) (r : Result Script LineFault) → is_ok r ≡ true → is_ok (onto_script l r) ≡ true
onto_ok l (Ok script) ok = refl
onto_ok l (Err fault) ok = ok

event_goes : (line : List ℕ) (lines : List (List ℕ)) (es : List Event) → line_of line ≡ Ok (Events es) → Goes lines → Goes (line ∷ lines)
event_goes line lines es is later n before =
    ap (λ (r : Result LineOf LineKind). is_ok (go_on n (r >>= placed before) (λ l. script_from (n + 1) (past_line l before) lines))) is
    ∙ onto_ok (Events es) (script_from (n + 1) (past_line (Events es) before) lines) (later (n + 1) (past_line (Events es) before))

handover_goes : (i : ℕ) (text : List ℕ) → Goes (lines_of text) → Goes (lines_of (handover_lines i ++ text))
handover_goes i text later =
    elim (i % 16 == 0) as (λ b. Goes (lines_of (cond b (codes "handover" ++ 10 ∷ []) [] ++ text))) [
      | true ↦ event_goes (codes "handover") (lines_of text) (Handover ∷ []) refl later
      | false ↦ later
    ]

module _ (hex_back : (bytes : List ℕ) → All (λ byte. byte < 256) bytes → bytes_of_hex (hex bytes) ≡ Ok bytes) (decimal_back : (max number : ℕ) → number ≤ max → max < 2 ^ 64 → number_of max (decimal number) ≡ Ok number) where
  domid_back : (d : ℕ) → d < 4 → number_of 32751 (decimal d) ≡ Ok d
  domid_back d small = decimal_back 32751 d (omega arith) (omega arith)

  send_line : (d : ℕ) (bytes : List ℕ) → d < 4 → 0 < length bytes → AllByRecursion IsByte bytes → line_of (codes "send " ++ (decimal d ++ 32 ∷ hex bytes)) ≡ Ok (Events (Send d bytes ∷ []))
  send_line d [] small some all = absurd (omega arith)
  send_line d (b ∷ bs) small some all =
      let bytes : List ℕ = b ∷ bs in
      ap send_verb (first_field (decimal d) (hex bytes) (decimal_in_field d) ∙ ap (λ fs. decimal d ∷ fs) (only_field (hex bytes) (hex_in_field bytes)))
      ∙ ap (λ r. number_or_fault r >>= λ domid. hex_field (hex bytes) >>= λ sent. one_event (Send domid sent)) (domid_back d small)
      ∙ ap (λ r. some_bytes r >>= λ sent. one_event (Send d sent)) (hex_back bytes (All-from_recursion IsByte bytes all))

  serve_line : (d : ℕ) → d < 4 → line_of (codes "serve " ++ decimal d) ≡ Ok (Events (serve d))
  serve_line d small =
      ap (domain_verb serve) (only_field (decimal d) (decimal_in_field d)) ∙ ap (λ r. number_or_fault r >>= λ domid. Ok (Events (serve domid))) (domid_back d small)

  -- a request that is sent and served
  sent_goes : (d : ℕ) (bytes text : List ℕ) → d < 4 → 0 < length bytes → AllByRecursion IsByte bytes → Goes (lines_of text) → Goes (lines_of (sent_lines d bytes ++ text))
  sent_goes d bytes text small some all later =
      let served = event_goes (codes "serve " ++ decimal d) (lines_of text) (serve d) (serve_line d small) later in
      subst Goes (sym (sent_are d bytes text)) (event_goes (codes "send " ++ (decimal d ++ 32 ∷ hex bytes)) ((codes "serve " ++ decimal d) ∷ lines_of text) (Send d bytes ∷ []) (send_line d bytes small some all) served)

  operation_goes : (i : ℕ) (g : Generator) (text : List ℕ) → Goes (lines_of text) → Goes (lines_of (operation_lines i g ++ text))
  operation_goes i g text later =
      let v : ℕ = drawn g in
      let bytes : List ℕ = message_bytes (request_for (choice_in v) i v (known_to g (domid_in v))) in
      let all = made_bytes (choice_in v) i v (known_to g (domid_in v)) in
      let small : v % 4 < 4 = omega arith in
      subst (λ (t : List ℕ). Goes (lines_of t)) (sym (append_assoc (sent_lines (domid_in v) bytes) (handover_lines i) text))
      (sent_goes (domid_in v) bytes (handover_lines i ++ text) small (omega arith) all (handover_goes i text later))

  operations_go : (left i : ℕ) (g : Generator) → Goes (lines_of (operations_lines left i g))
  operations_go zero i g = λ n before. refl
  operations_go (suc left) i g = operation_goes i g (operations_lines left (i + 1) (past g)) (operations_go left (i + 1) (past g))

  -- the lines behind those of the domains
  bulk_goes : (text : List ℕ) → Goes (lines_of text) → Goes (lines_of (request_lines 0 make_bulk ++ request_lines 0 open_bulk ++ text))
  bulk_goes text later =
      subst (λ (t : List ℕ). Goes (lines_of t)) (sym (append_assoc (request_lines 0 make_bulk) (request_lines 0 open_bulk) text))
      (sent_goes 0 (message_bytes make_bulk) (request_lines 0 open_bulk ++ text) (omega arith) (omega arith) make_bytes (sent_goes 0 (message_bytes open_bulk) text (omega arith) (omega arith) open_bytes later))

  pub made_scripts_read : MadeScriptsRead
  made_scripts_read seed count =
      let text : List ℕ = operations_lines count 1 (begun seed) in
      onto_ok (Domain 1 0) _ (onto_ok (Domain 2 0) _ (onto_ok (Domain 3 0) _ (bulk_goes text (operations_go count 1 (begun seed)) 4 (record { resumed = false; domids = 3 ∷ 2 ∷ 1 ∷ []; in_body = false }))))

use Rattle.std.proofs.Common.{◌≡◌, ◌+◌, ◌<◌, length, drop, false, true, sym, ap, ◌∙◌, arith}
use Rattle.std.proofs.lemmas.List.{length-drop}
use Rattle.stream_model.specs.Fields.{u32_at, part}
use Rattle.stream_model.specs.Record.{is_end}
use Rattle.stream_model.specs.Spelling.{whole_size}
use Rattle.stream_model.specs.Reading.{record_in}
use Rattle.mig_records.proofs.Steps.{fault_here, record_here, end_here, bytes_behind, none_behind}
use Rattle.mig_records.proofs.stream.fault_behind.Goals as goal

pub returns-in-Err-clause-is : goal.returns-in-Err-clause-is
returns-in-Err-clause-is c =
    let fault = rw c.behind-rest.ensures at c.in-Err.ensures.fault in
    fault_here c.loop-kind.at (drop c.loop-kind.at c.args.bytes.now) c.in-Err.fault _ fault c.loop-kind.invariant.same

pub loop-kind-preserved : goal.loop-kind-preserved
loop-kind-preserved c =
    let at = c.loop-kind.at in
    let bytes = c.args.bytes.now in
    let read = rw c.behind-rest.ensures at c.in-Ok.ensures.read in
    let whole = rw c.behind-rest.ensures at c.in-Ok.ensures.whole in
    let size : c.whole_size-at.result ≡ whole_size (u32_at 4 (drop at bytes)) = c.whole_size-at.ensures ∙ ap whole_size (c.u32_at.ensures ∙ ap (u32_at 4) c.behind-rest.ensures) in
    let body = part 8 (u32_at 4 (drop at bytes)) (drop at bytes) in
    let other : is_end (record_in c.in-Ok.kind body) ≡ false = sym (c.is_end.ensures body) ∙ c.if-is_end.false in
    record {
      within = omega (arith, size, whole, length-drop at bytes);
      same = rw size (record_here at bytes (record_in c.in-Ok.kind body) _ read whole other c.loop-kind.invariant.same);
    }

pub returns-then-at-bytes-clause-is : goal.returns-then-at-bytes-clause-is
returns-then-at-bytes-clause-is c =
    let at = c.loop-kind.at in
    let bytes = c.args.bytes.now in
    let read = rw c.behind-rest.ensures at c.in-Ok.ensures.read in
    let whole = rw c.behind-rest.ensures at c.in-Ok.ensures.whole in
    let size : c.whole_size-at.result ≡ whole_size (u32_at 4 (drop at bytes)) = c.whole_size-at.ensures ∙ ap whole_size (c.u32_at.ensures ∙ ap (u32_at 4) c.behind-rest.ensures) in
    let body = part 8 (u32_at 4 (drop at bytes)) (drop at bytes) in
    let last : is_end (record_in c.in-Ok.kind body) ≡ true = sym (c.is_end.ensures body) ∙ c.if-is_end.true in
    let next = at + whole_size (u32_at 4 (drop at bytes)) in
    let ended = end_here at bytes (record_in c.in-Ok.kind body) _ read whole last c.loop-kind.invariant.same in
    let some : 0 < length (drop next bytes) = omega (arith, size, c.if-at-bytes.true, length-drop next bytes) in
    rw size (bytes_behind next (drop next bytes) _ some ended)

pub returns-clause-is : goal.returns-clause-is
returns-clause-is c =
    let at = c.loop-kind.at in
    let bytes = c.args.bytes.now in
    let read = rw c.behind-rest.ensures at c.in-Ok.ensures.read in
    let whole = rw c.behind-rest.ensures at c.in-Ok.ensures.whole in
    let size : c.whole_size-at.result ≡ whole_size (u32_at 4 (drop at bytes)) = c.whole_size-at.ensures ∙ ap whole_size (c.u32_at.ensures ∙ ap (u32_at 4) c.behind-rest.ensures) in
    let body = part 8 (u32_at 4 (drop at bytes)) (drop at bytes) in
    let last : is_end (record_in c.in-Ok.kind body) ≡ true = sym (c.is_end.ensures body) ∙ c.if-is_end.true in
    let next = at + whole_size (u32_at 4 (drop at bytes)) in
    let ended = end_here at bytes (record_in c.in-Ok.kind body) _ read whole last c.loop-kind.invariant.same in
    let none : length (drop next bytes) ≡ 0 = omega (arith, size, c.if-at-bytes.false, length-drop next bytes) in
    none_behind next (drop next bytes) _ none ended

use Rattle.std.proofs.Common.{map, string_bytes}
use Rattle.stream_view.proofs.ViewLemmas.{is_read, told_fault, told_no_lines, told_lines, told_front, told_done, told_some}
use Rattle.stream_view.proofs.view.Goals as goal

pub returns-in-Err-clause-stream : goal.returns-in-Err-clause-stream
returns-in-Err-clause-stream g c =
    let read = is_read (map string_bytes c.args.words.now) _ _ c.in-Some.form c.in-Ok.input _ _ c.in-Some.ensures c.in-Ok.ensures.bytes c.in-Ok.ensures.end c.in-Ok.ensures.short c.in-Ok-bytes_given.ensures.ok c.as_slice.ensures in
    λ fault e. told_fault _ _ _ _ c.in-Err.fault fault read c.in-Err.ensures.fault e

pub returns-in-Err-clause-complete : goal.returns-in-Err-clause-complete
returns-in-Err-clause-complete g c =
    let read = is_read (map string_bytes c.args.words.now) _ _ c.in-Some.form c.in-Ok.input _ _ c.in-Some.ensures c.in-Ok.ensures.bytes c.in-Ok.ensures.end c.in-Ok.ensures.short c.in-Ok-bytes_given.ensures.ok c.as_slice.ensures in
    λ told shown reads writes. absurd (told_no_lines _ _ _ _ c.in-Err.fault read c.in-Err.ensures.fault told shown)

pub returns-in-Ok-write_lines-clause-done : goal.returns-in-Ok-write_lines-clause-done
returns-in-Ok-write_lines-clause-done g c =
    let read = is_read (map string_bytes c.args.words.now) _ _ c.in-Some.form c.in-Ok.input _ _ c.in-Some.ensures c.in-Ok.ensures.bytes c.in-Ok.ensures.end c.in-Ok.ensures.short c.in-Ok-bytes_given.ensures.ok c.as_slice.ensures in
    let all = rw c.in-Ok-new.ensures.begins.0 at c.in-Ok-write_lines.ensures.ok in
    λ e. told_done _ _ _ _ c.in-Ok-new.reader.records _ _ read c.in-Ok-new.ensures.ok all

pub returns-in-Ok-write_lines-clause-front : goal.returns-in-Ok-write_lines-clause-front
returns-in-Ok-write_lines-clause-front g c =
    let read = is_read (map string_bytes c.args.words.now) _ _ c.in-Some.form c.in-Ok.input _ _ c.in-Some.ensures c.in-Ok.ensures.bytes c.in-Ok.ensures.end c.in-Ok.ensures.short c.in-Ok-bytes_given.ensures.ok c.as_slice.ensures in
    let front = rw c.in-Ok-new.ensures.begins.0 at c.write_lines.ensures.front in
    told_front _ _ _ _ c.in-Ok-new.reader.records _ _ read c.in-Ok-new.ensures.ok front

pub returns-in-Ok-write_lines-clause-no_lines : goal.returns-in-Ok-write_lines-clause-no_lines
returns-in-Ok-write_lines-clause-no_lines g c =
    let read = is_read (map string_bytes c.args.words.now) _ _ c.in-Some.form c.in-Ok.input _ _ c.in-Some.ensures c.in-Ok.ensures.bytes c.in-Ok.ensures.end c.in-Ok.ensures.short c.in-Ok-bytes_given.ensures.ok c.as_slice.ensures in
    told_some _ _ _ _ c.in-Ok-new.reader.records _ read c.in-Ok-new.ensures.ok

pub returns-in-Err-WriteFault-clause-write_fault_of_stream : goal.returns-in-Err-WriteFault-clause-write_fault_of_stream
returns-in-Err-WriteFault-clause-write_fault_of_stream g c =
    let read = is_read (map string_bytes c.args.words.now) _ _ c.in-Some.form c.in-Ok.input _ _ c.in-Some.ensures c.in-Ok.ensures.bytes c.in-Ok.ensures.end c.in-Ok.ensures.short c.in-Ok-bytes_given.ensures.ok c.as_slice.ensures in
    λ e. told_lines _ _ _ _ c.in-Ok-new.reader.records read c.in-Ok-new.ensures.ok

pub returns-in-Err-WriteFault-clause-front : goal.returns-in-Err-WriteFault-clause-front
returns-in-Err-WriteFault-clause-front g c =
    let read = is_read (map string_bytes c.args.words.now) _ _ c.in-Some.form c.in-Ok.input _ _ c.in-Some.ensures c.in-Ok.ensures.bytes c.in-Ok.ensures.end c.in-Ok.ensures.short c.in-Ok-bytes_given.ensures.ok c.as_slice.ensures in
    let front = rw c.in-Ok-new.ensures.begins.0 at c.write_lines.ensures.front in
    told_front _ _ _ _ c.in-Ok-new.reader.records _ _ read c.in-Ok-new.ensures.ok front

pub returns-in-Err-WriteFault-clause-no_lines : goal.returns-in-Err-WriteFault-clause-no_lines
returns-in-Err-WriteFault-clause-no_lines g c =
    let read = is_read (map string_bytes c.args.words.now) _ _ c.in-Some.form c.in-Ok.input _ _ c.in-Some.ensures c.in-Ok.ensures.bytes c.in-Ok.ensures.end c.in-Ok.ensures.short c.in-Ok-bytes_given.ensures.ok c.as_slice.ensures in
    told_some _ _ _ _ c.in-Ok-new.reader.records _ read c.in-Ok-new.ensures.ok

pub returns-clause-front : goal.returns-clause-front
returns-clause-front g c =
    let read = is_read (map string_bytes c.args.words.now) _ _ c.in-Some.form c.in-Ok.input _ _ c.in-Some.ensures c.in-Ok.ensures.bytes c.in-Ok.ensures.end c.in-Ok.ensures.short c.in-Ok-bytes_given.ensures.ok c.as_slice.ensures in
    let front = rw c.in-Ok-new.ensures.begins.0 at c.write_lines.ensures.front in
    told_front _ _ _ _ c.in-Ok-new.reader.records _ _ read c.in-Ok-new.ensures.ok front

pub returns-clause-no_lines : goal.returns-clause-no_lines
returns-clause-no_lines g c =
    let read = is_read (map string_bytes c.args.words.now) _ _ c.in-Some.form c.in-Ok.input _ _ c.in-Some.ensures c.in-Ok.ensures.bytes c.in-Ok.ensures.end c.in-Ok.ensures.short c.in-Ok-bytes_given.ensures.ok c.as_slice.ensures in
    told_some _ _ _ _ c.in-Ok-new.reader.records _ read c.in-Ok-new.ensures.ok

use Rattle.guest_script.specs.Views.{script_view}
use Rattle.xs_drive.proofs.CountLemmas.{all_written, front_written, none_written, all_rose, none_counted, some_rose}
use Rattle.xs_drive.proofs.StepLemmas.{told_by}
use Rattle.xs_drive.proofs.counting.write_counts.Goals as goal

pub returns-in_err-counts-clause-starved : goal.returns-in_err-counts-clause-starved
returns-in_err-counts-clause-starved g c =
    let v = g.V.Vault in
    let told = told_by v.puts v.gets v.faults v.honest in
    let written = g.K.Sink.written in
    λ _. none_counted c.args.seed c.args.count (script_view c.in_ok-script.script) c.in_ok-script.ensures.reads c.in_ok-world.world c.in_ok-world.ensures (told c.args.vault.now) (told c.count_all.new.vault) c.in_err-counts.ensures.err (written c.args.out.now)

pub returns-in_err-counts-clause-vault_counts : goal.returns-in_err-counts-clause-vault_counts
returns-in_err-counts-clause-vault_counts g c =
    let v = g.V.Vault in
    let told = told_by v.puts v.gets v.faults v.honest in
    let written = g.K.Sink.written in
    some_rose c.args.seed c.args.count (script_view c.in_ok-script.script) c.in_ok-script.ensures.reads c.in_ok-world.world c.in_ok-world.ensures (told c.args.vault.now) (told c.count_all.new.vault) c.in_err-counts.ensures.err

pub returns-in_err-text-clause-starved : goal.returns-in_err-text-clause-starved
returns-in_err-text-clause-starved g c =
    let v = g.V.Vault in
    let told = told_by v.puts v.gets v.faults v.honest in
    let written = g.K.Sink.written in
    λ _. none_written c.args.seed c.args.count (script_view c.in_ok-script.script) c.in_ok-script.ensures.reads c.in_ok-world.world c.in_ok-world.ensures (told c.args.vault.now) (told c.count_all.new.vault) c.in_ok-counts.counts c.in_ok-counts.ensures.ok (written c.args.out.now)

pub returns-in_err-text-clause-vault_counts : goal.returns-in_err-text-clause-vault_counts
returns-in_err-text-clause-vault_counts g c =
    let v = g.V.Vault in
    let told = told_by v.puts v.gets v.faults v.honest in
    let written = g.K.Sink.written in
    all_rose c.args.seed c.args.count (script_view c.in_ok-script.script) c.in_ok-script.ensures.reads c.in_ok-world.world c.in_ok-world.ensures (told c.args.vault.now) (told c.count_all.new.vault) c.in_ok-counts.counts c.in_ok-counts.ensures.ok

pub returns-in_err-write_all-clause-stopped : goal.returns-in_err-write_all-clause-stopped
returns-in_err-write_all-clause-stopped g c =
    let v = g.V.Vault in
    let told = told_by v.puts v.gets v.faults v.honest in
    let written = g.K.Sink.written in
    λ _. front_written c.args.seed c.args.count (script_view c.in_ok-script.script) c.in_ok-script.ensures.reads c.in_ok-world.world c.in_ok-world.ensures (told c.args.vault.now) (told c.count_all.new.vault) c.in_ok-counts.counts c.in_ok-counts.ensures.ok (written c.args.out.now) (written c.write_all.new.out) (rw (c.as_slice.ensures, c.in_ok-text.ensures) at c.in_err-write_all.ensures.front)

pub returns-in_err-write_all-clause-vault_counts : goal.returns-in_err-write_all-clause-vault_counts
returns-in_err-write_all-clause-vault_counts g c =
    let v = g.V.Vault in
    let told = told_by v.puts v.gets v.faults v.honest in
    let written = g.K.Sink.written in
    all_rose c.args.seed c.args.count (script_view c.in_ok-script.script) c.in_ok-script.ensures.reads c.in_ok-world.world c.in_ok-world.ensures (told c.args.vault.now) (told c.count_all.new.vault) c.in_ok-counts.counts c.in_ok-counts.ensures.ok

pub returns-clause-ok : goal.returns-clause-ok
returns-clause-ok g c =
    let v = g.V.Vault in
    let told = told_by v.puts v.gets v.faults v.honest in
    let written = g.K.Sink.written in
    all_written c.args.seed c.args.count (script_view c.in_ok-script.script) c.in_ok-script.ensures.reads c.in_ok-world.world c.in_ok-world.ensures (told c.args.vault.now) (told c.count_all.new.vault) c.in_ok-counts.counts c.in_ok-counts.ensures.ok (written c.args.out.now) (written c.write_all.new.out) (rw (c.as_slice.ensures, c.in_ok-text.ensures) at c.in_ok-write_all.ensures.ok)

pub returns-clause-vault_counts : goal.returns-clause-vault_counts
returns-clause-vault_counts g c =
    let v = g.V.Vault in
    let told = told_by v.puts v.gets v.faults v.honest in
    let written = g.K.Sink.written in
    all_rose c.args.seed c.args.count (script_view c.in_ok-script.script) c.in_ok-script.ensures.reads c.in_ok-world.world c.in_ok-world.ensures (told c.args.vault.now) (told c.count_all.new.vault) c.in_ok-counts.counts c.in_ok-counts.ensures.ok

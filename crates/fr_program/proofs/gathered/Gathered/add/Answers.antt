use Rattle.std.specs.Prelude.{is_ok}
use Rattle.std.proofs.Common.{◌≡◌, false, rules}
use Rattle.fr_program.proofs.Gathering.{gathers_stopped, gathers_straight, untaken}
use Rattle.fr_program.proofs.gathered.Gathered.add.Goals as goal

pub returns-in_err-put_all : goal.returns-in_err-put_all
returns-in_err-put_all g c =
    let failed : is_ok c.put.result ≡ false = search rules in
    let same : c.put.new.self.bytes ≡ c.args.self.now.bytes = untaken c.put.result failed c.put.ensures.nothing in
    gathers_stopped c.args.text.now c.from_residual.result (rw same at c.in_err-put_all.ensures.puts) c.from_residual.ensures.0

pub returns : goal.returns
returns g c =
    let failed : is_ok c.put.result ≡ false = search rules in
    let same : c.put.new.self.bytes ≡ c.args.self.now.bytes = untaken c.put.result failed c.put.ensures.nothing in
    gathers_straight c.put_text.result c.in_ok-put_all.ensures.emptied (rw same at c.in_ok-put_all.ensures.puts) c.put_text.ensures

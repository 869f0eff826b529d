use Prim.Native.Nat.{◌+◌}
use Rattle.calls.specs.Program.{decimal}
use Rattle.calls.specs.Text.{ascii}
use Rattle.texts.proofs.Laws.Line.{both_written, line_written, refused_line}
use mathlib.Core.List.{◌∷◌, ◌++◌}
use mathlib.Core.Path.{◌≡◌}
use borrow.Author.Rules.{rules}
use native.Mathlib.Omega.{arith}
use Rattle.texts.proofs.line.write_refused.Goals as goal

pub returns : goal.returns
returns c =
    let e : c.from.result ≡ c.args.number = search rules in
    let t = both_written c.args.out.now c.write_counted-end.new.out (ascii "REFUSED" ++ (32 ∷ ascii (decimal c.from.result))) (32 ∷ ascii (decimal c.args.place)) c.write_counted.new.out c.write_counted-end.result c.write_counted.result c.write_counted-end.ensures.length c.write_counted-end.ensures.text c.write_counted.ensures.length c.write_counted.ensures.text in
    let r = line_written c.args.out.now _ _ _ (c.write_counted-end.result + c.write_counted.result) 19 (omega arith) (omega (arith, c.write_counted-end.ensures.few, c.write_counted.ensures.few)) t.0 t.1 (refused_line c.from.result c.args.place) in
    rw (← e) (record { few = r.0; length = r.1.0; text = r.1.1 })

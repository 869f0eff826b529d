use Rattle.std.proofs.Common.{◌≡◌, ℕ, length, rules, ap, ◌∙◌}
use Rattle.tables.specs.Values.{answer_of}
use Rattle.calls.specs.Making.{make_answer}
use Rattle.calls.specs.Program.{longest_list}
use Rattle.maker.proofs.Laws.Paper.{list_first, line_first}
use Rattle.maker.proofs.make.Goals as goal

pub returns : goal.returns
returns c =
    let m = c.make_here-answer in
    let t = c.args.table.now in
    let w = c.write_made.ensures in
    let long : length c.args.list.now ≡ longest_list = search rules in
    let same = m.ensures.answer ∙ ap (λ (n : ℕ). make_answer t n 4096) long in
    let file = list_first t (answer_of m.result) c.args.list.now _ _ long m.ensures.answer m.ensures.buffer c.made_length.ensures in
    let line = line_first t (answer_of m.result) c.args.line.now _ _ same w.length w.text in
    record { few = (file.0, line.0); writes = file.1; prints = line.1 }

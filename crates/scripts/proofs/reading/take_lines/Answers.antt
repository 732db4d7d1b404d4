use Rattle.std.proofs.Common.{rules, arith, Err, length, sym, ap, inl, ℕ, ◌+◌, ◌∙◌, ◌≤◌, ◌≡◌}
use Rattle.std.proofs.lemmas.Result.{err_from_is_err_and}
use Rattle.std.specs.Iterator.Adapters.{enumerate_source, enumerate_count}
use Rattle.lines.specs.Lines.{lines_of}
use Rattle.line_reader.specs.Reader.{lines_left}
use Rattle.scripts.specs.Script.{refused_at, read_from}
use Rattle.scripts.proofs.ReadLaws.{line_taken, line_refused, read_end, read_on_lem, read_refused}
use Rattle.scripts.proofs.reading.take_lines.Goals as goal
use Rattle.scripts.proofs.reading.take_lines.Goals.{After-into_iter-index-iterator}

-- all lines are to come, and they are fewer than numbers
all_to_come : (c : After-into_iter-index-iterator)
    → lines_left (enumerate_source c.into_iter-index-iterator.result) ≡ lines_of c.args.text.now
all_to_come c =
    ap (λ it. lines_left (enumerate_source it)) c.into_iter-index-iterator.ensures.into_iter_gives
    ∙ (ap lines_left c.enumerate-index-items.ensures.source ∙ c.new.ensures.every_line)

from_none : (c : After-into_iter-index-iterator) → enumerate_count c.into_iter-index-iterator.result ≡ 0
from_none c =
    ap enumerate_count c.into_iter-index-iterator.ensures.into_iter_gives ∙ c.enumerate-index-items.ensures.count

few_to_come : (c : After-into_iter-index-iterator)
    → enumerate_count c.into_iter-index-iterator.result + length (lines_left (enumerate_source c.into_iter-index-iterator.result))
    ≤ length c.args.text.now
few_to_come c = omega (arith, ap length (all_to_come c), from_none c, ap length c.new.ensures.every_line, c.new.ensures.few)

pub loop-index-init-derived : goal.loop-index-init-derived
loop-index-init-derived c = ((tt, tt, inl (omega (arith, few_to_come c))), tt)

pub loop-index-init : goal.loop-index-init
loop-index-init c = record {
  goes = (tt, tt, inl (omega (arith, few_to_come c)));
  ends = tt;
  few = few_to_come c;
  so_far = rw (all_to_come c, from_none c);
}

pub loop-index-preserved : goal.loop-index-preserved
loop-index-preserved c =
    let i = c.loop-index.invariant in
    let s = c.in-Some.ensures.steps in
    let n = enumerate_count c.loop-index.index-iterator in
    let t = c.loop-index.keys in
    let u = c.take_line.new.keys in
    let ls = lines_left (enumerate_source c.next.new.self) in
    let few : enumerate_count c.next.new.self + length ls ≤ length c.args.text.now = omega (arith, ap length s.0, s.2, i.few) in
    record {
      goes = (tt, tt, inl (omega (arith, few)));
      ends = tt;
      few = few;
      so_far =
          ap (λ (k : ℕ). read_from (k + 1) u ls) s.2
          ∙ (read_on_lem (n + 1) t u c.in-Some.line.now ls (line_taken _ _ _ c.in_ok-map_err.ensures.variant c.take_line.ensures)
          ∙ (ap (read_from (n + 1) t) (sym s.0) ∙ i.so_far));
    }

pub returns-in_err-map_err : goal.returns-in_err-map_err
returns-in_err-map_err c =
    let i = c.loop-index.invariant in
    let s = c.in-Some.ensures.steps in
    let n = enumerate_count c.loop-index.index-iterator in
    let t = c.loop-index.keys in
    let why = c.in_err-map_err.field-0.0 in
    let r = line_refused _ _ _ why (c.in-Some.index + 1) _ c.in_err-map_err.ensures.cases (λ e q. search rules) c.take_line.ensures in
    let p = err_from_is_err_and c.from_residual.result c.from_residual.ensures.1 in
    rw (p.1 ∙ ap Err p.2)
    (ap (λ (k : ℕ). refused_at k why.refusal) (r.1 ∙ ap (λ (k : ℕ). k + 1) s.1)
    ∙ (read_refused (n + 1) t c.in-Some.line.now (lines_left (enumerate_source c.next.new.self)) why.refusal r.0
    ∙ (ap (read_from (n + 1) t) (sym s.0) ∙ i.so_far)))

pub returns : goal.returns
returns c =
    let i = c.loop-index.invariant in
    let s = c.in-None.ensures.steps in
    let n = enumerate_count c.loop-index.index-iterator in
    read_end (n + 1) c.loop-index.keys ∙ (ap (read_from (n + 1) c.loop-index.keys) (sym s.0.0) ∙ i.so_far)

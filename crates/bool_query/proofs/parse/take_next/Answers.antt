use Rattle.std.proofs.Common.{rules, false, ◌≡◌, ◌∙◌, ◌+◌, ℕ, List, ap, drop, sym, subst, refl, length, get_or, arith}
use Rattle.std.proofs.lemmas.Result.{err_from_is_err_and}
use Rattle.std.proofs.lemmas.Str.{IsCharBoundary-after_ascii}
use Rattle.std.specs.List.{slice_range}
use Rattle.std.specs.Prelude.{◌==◌}
use Rattle.bool_query.specs.Parsers.{IsRead}
use Rattle.std.specs.Str.{IsCharBoundary}
use Rattle.bool_query.specs.Progress.{HasRead}
use Rattle.funnel_model.specs.Queries.{bar, left, right, minus, word, IsMalformed, IsTooDeep, atom_bytes, ends_atom}
use Rattle.bool_query.proofs.FaultLemmas.{syntax-weaker, deep-weaker}
use Rattle.bool_query.proofs.Lexing.{here-space, here-bar, here-left, here-right, here-minus, here-word, end_of, atom-boundary, atom-within}
use Rattle.bool_query.proofs.Progress.{read-deep, read-stuck, read-token, read-space}
use Rattle.bool_query.proofs.parse.take_next.Goals as goal

end_is : (at : ℕ) (text bytes : List ℕ) (end : ℕ) → bytes ≡ text → end ≡ at + 1 + length (atom_bytes (drop (at + 1) bytes)) → end ≡ end_of text at
end_is at text bytes end same is = is ∙ ap (λ (bs : List ℕ). at + 1 + length (atom_bytes (drop (at + 1) bs))) same

pub returns-in_err-take_bar-in-124-clause-syntax : goal.returns-in_err-take_bar-in-124-clause-syntax
returns-in_err-take_bar-in-124-clause-syntax c =
    let p = err_from_is_err_and c.from_residual.result c.from_residual.ensures.1 in
    let is : get_or c.args.text.now c.args.at 0 ≡ 124 = cc (c.in-124.is, c.as_bytes.ensures.value) in
    rw (p.1, p.2) (syntax-weaker (Unit {0}) ℕ c.in_err-take_bar-in-124.field-0.0 _ _
    (λ place refused. subst (IsMalformed c.args.text.now) (sym refused.0)
    (read-stuck c.args.text.now c.args.at bar _ c.args.parser.now c.requires.read refused.1 (here-bar c.args.text.now c.args.at c.requires.inside is)))
    c.in_err-take_bar-in-124.ensures.syntax)

pub returns-in_err-take_right-in-41-clause-syntax : goal.returns-in_err-take_right-in-41-clause-syntax
returns-in_err-take_right-in-41-clause-syntax c =
    let p = err_from_is_err_and c.from_residual-in_err-take_right-in-41.result c.from_residual-in_err-take_right-in-41.ensures.1 in
    let is : get_or c.args.text.now c.args.at 0 ≡ 41 = cc (c.in-41.is, c.as_bytes.ensures.value) in
    rw (p.1, p.2) (syntax-weaker (Unit {0}) ℕ c.in_err-take_right-in-41.field-0.0 _ _
    (λ place refused. subst (IsMalformed c.args.text.now) (sym refused.0)
    (read-stuck c.args.text.now c.args.at right _ c.args.parser.now c.requires.read refused.1 (here-right c.args.text.now c.args.at c.requires.inside is)))
    c.in_err-take_right-in-41.ensures.syntax)

pub returns-in_err-take_left-in-40-clause-deep : goal.returns-in_err-take_left-in-40-clause-deep
returns-in_err-take_left-in-40-clause-deep c =
    let p = err_from_is_err_and c.from_residual-in_err-take_left-in-40.result c.from_residual-in_err-take_left-in-40.ensures.1 in
    let is : get_or c.args.text.now c.args.at 0 ≡ 40 = cc (c.in-40.is, c.as_bytes.ensures.value) in
    rw (p.1, p.2) (deep-weaker (Unit {0}) ℕ c.in_err-take_left-in-40.field-0.0 _ _
    (λ place refused. subst (IsTooDeep c.args.text.now) (sym refused.0)
    (read-deep c.args.text.now c.args.at left _ c.args.parser.now _ c.requires.read refl refused.1 (here-left c.args.text.now c.args.at c.requires.inside is)))
    c.in_err-take_left-in-40.ensures.deep)

pub returns-in_err-take_minus-in-45-clause-deep : goal.returns-in_err-take_minus-in-45-clause-deep
returns-in_err-take_minus-in-45-clause-deep c =
    let p = err_from_is_err_and c.from_residual-in_err-take_minus-in-45.result c.from_residual-in_err-take_minus-in-45.ensures.1 in
    let is : get_or c.args.text.now c.args.at 0 ≡ 45 = cc (c.in-45.is, c.as_bytes.ensures.value) in
    rw (p.1, p.2) (deep-weaker (Unit {0}) ℕ c.in_err-take_minus-in-45.field-0.0 _ _
    (λ place refused. subst (IsTooDeep c.args.text.now) (sym refused.0)
    (read-deep c.args.text.now c.args.at minus _ c.args.parser.now _ c.requires.read refl refused.1 (here-minus c.args.text.now c.args.at c.requires.inside is)))
    c.in_err-take_minus-in-45.ensures.deep)

pub range-requires-clause-start_boundary : goal.range-requires-clause-start_boundary
range-requires-clause-start_boundary c start = c.requires.read.boundary

pub range-requires-clause-end_boundary : goal.range-requires-clause-end_boundary
range-requires-clause-end_boundary c =
    subst (IsCharBoundary c.args.text.now) (sym (end_is c.args.at c.args.text.now _ _ c.as_bytes-in_default.ensures.value c.atom_end-end.ensures))
    (atom-boundary c.args.text.now (c.args.at + 1) (omega arith))

pub returns-in-32-clause-next : goal.returns-in-32-clause-next
returns-in-32-clause-next c =
    let text = c.args.text.now in
    let at = c.args.at in
    let is : get_or c.args.text.now c.args.at 0 ≡ 32 = cc (c.in-32.is, c.as_bytes.ensures.value) in (
      omega arith,
      omega arith,
      read-space text at _ c.args.parser.now c.requires.read
          (IsCharBoundary-after_ascii text at c.utf8.text c.requires.inside (omega (arith, is))) (here-space text at c.requires.inside is),
    )

pub returns-in_ok-take_bar-in-124-clause-next : goal.returns-in_ok-take_bar-in-124-clause-next
returns-in_ok-take_bar-in-124-clause-next c =
    let text = c.args.text.now in
    let at = c.args.at in
    let is : get_or c.args.text.now c.args.at 0 ≡ 124 = cc (c.in-124.is, c.as_bytes.ensures.value) in (
      omega arith,
      omega arith,
      read-token text at _ bar c.args.parser.now c.take_bar.new.self c.requires.read c.in_ok-take_bar-in-124.ensures.taken
          (IsCharBoundary-after_ascii text at c.utf8.text c.requires.inside (omega (arith, is))) (here-bar text at c.requires.inside is),
    )

pub returns-in_ok-take_left-in-40-clause-next : goal.returns-in_ok-take_left-in-40-clause-next
returns-in_ok-take_left-in-40-clause-next c =
    let text = c.args.text.now in
    let at = c.args.at in
    let is : get_or c.args.text.now c.args.at 0 ≡ 40 = cc (c.in-40.is, c.as_bytes.ensures.value) in (
      omega arith,
      omega arith,
      read-token text at _ left c.args.parser.now c.take_left.new.self c.requires.read c.in_ok-take_left-in-40.ensures.taken
          (IsCharBoundary-after_ascii text at c.utf8.text c.requires.inside (omega (arith, is))) (here-left text at c.requires.inside is),
    )

pub returns-in_ok-take_right-in-41-clause-next : goal.returns-in_ok-take_right-in-41-clause-next
returns-in_ok-take_right-in-41-clause-next c =
    let text = c.args.text.now in
    let at = c.args.at in
    let is : get_or c.args.text.now c.args.at 0 ≡ 41 = cc (c.in-41.is, c.as_bytes.ensures.value) in (
      omega arith,
      omega arith,
      read-token text at _ right c.args.parser.now c.take_right.new.self c.requires.read c.in_ok-take_right-in-41.ensures.taken
          (IsCharBoundary-after_ascii text at c.utf8.text c.requires.inside (omega (arith, is))) (here-right text at c.requires.inside is),
    )

pub returns-in_ok-take_minus-in-45-clause-next : goal.returns-in_ok-take_minus-in-45-clause-next
returns-in_ok-take_minus-in-45-clause-next c =
    let text = c.args.text.now in
    let at = c.args.at in
    let is : get_or c.args.text.now c.args.at 0 ≡ 45 = cc (c.in-45.is, c.as_bytes.ensures.value) in (
      omega arith,
      omega arith,
      read-token text at _ minus c.args.parser.now c.take_minus.new.self c.requires.read c.in_ok-take_minus-in-45.ensures.taken
          (IsCharBoundary-after_ascii text at c.utf8.text c.requires.inside (omega (arith, is))) (here-minus text at c.requires.inside is),
    )

pub returns-in_ok-take_atom-in_default-clause-next : goal.returns-in_ok-take_atom-in_default-clause-next
returns-in_ok-take_atom-in_default-clause-next c =
    let text = c.args.text.now in
    let at = c.args.at in
    let byte : ℕ = get_or text at 0 in
    let end : c.atom_end-end.result ≡ end_of text at = end_is at text _ _ c.as_bytes-in_default.ensures.value c.atom_end-end.ensures in
    let inside : ends_atom byte ≡ false = search rules in
    let unsigned : (byte == 45) ≡ false = search rules in
    let tokens = here-word text at c.requires.inside inside unsigned in (
      omega (arith, end),
      omega (arith, end, atom-within text (at + 1) (omega arith)),
      subst (λ (n : ℕ). HasRead text n c.take_atom.new.self) (sym end)
          (read-token text at (end_of text at) (word _) c.args.parser.now c.take_atom.new.self c.requires.read
          (subst (λ (bytes : List ℕ). IsRead c.args.parser.now (word bytes) c.take_atom.new.self)
          (c.range.ensures.value ∙ ap (λ (n : ℕ). slice_range text at n) end) c.in_ok-take_atom-in_default.ensures.taken)
          (atom-boundary text (at + 1) (omega arith)) tokens),
    )

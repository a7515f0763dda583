use Rattle.std.proofs.Common.{◌≡◌, ◌∙◌, ◌&&◌, ◌<◌, ℕ, List, false, arith, lt-ltb, refl, sym}
use Rattle.std.specs.Str.{is_utf8}
use Rattle.funnel_model.specs.Treatment.{class_of_count}
use Rattle.funnel_stats.specs.Faults.{is_word}
use Rattle.fit.specs.Listings.{may_be_listed}
use Rattle.fit.proofs.ranking.as_listable.Goals as goal

-- a word of the last class may not be listed
last_class : (documents : ℕ) (entry : List ℕ × ℕ) → class_of_count entry.1 documents ≡ 15 → may_be_listed documents entry ≡ false
unfolding may_be_listed
last_class documents entry last = rw last refl

-- another may be where it is one folded word
lower_class : (documents : ℕ) (entry : List ℕ × ℕ) → class_of_count entry.1 documents < 15 → may_be_listed documents entry ≡ (is_utf8 entry.0 && is_word entry.0)
unfolding may_be_listed
lower_class documents entry lower = rw (lt-ltb (class_of_count entry.1 documents) 15 lower) refl

pub returns-then-class-eq-LAST_CLASS : goal.returns-then-class-eq-LAST_CLASS
returns-then-class-eq-LAST_CLASS c =
    last_class c.args.documents (c.args.word.items, c.args.count) (sym c.class.ensures.value ∙ c.if-class-eq-LAST_CLASS.true)

pub returns : goal.returns
returns c =
    let below : c.class.result < 15 = omega (arith, c.class.ensures.greatest.in_range, c.if-class-eq-LAST_CLASS.false) in
    let lower : class_of_count c.args.count c.args.documents < 15 = omega (arith, below, c.class.ensures.value) in
    rw (lower_class c.args.documents (c.args.word.items, c.args.count) lower) c.as_word.ensures

-- Readings that are sound can be completed to an expression, and the tokens of an expression can be read.
use Rattle.std.proofs.Common.{◌≡◌, ℕ, zero, suc, ◌<◌, List, [], ◌∷◌, ◌++◌, length, refl, sym, ap, ◌∙◌, subst, append_assoc, arith}
use Rattle.std.proofs.lemmas.List.{append-nil, length-append, map-append}
use Rattle.funnel_model.specs.Expressions.{Tree, Trees, atom, every, some, contrary, trees_of}
use Rattle.funnel_model.specs.Queries.{Token, bar, left, right, minus, word, Spelled, IsFactor, IsTerm, HaveFactors, AreFactors, HaveTerms, AreTerms, IsExpression, IsFront, tokens_of}
use Rattle.funnel_model.specs.Readings.{Level, Reading, start, signed, with_factor, terms_with_last, IsComplete, Closes, Takes, opened, level_at, Reads}
use Rattle.funnel_model.proofs.ReadingLemmas.{spell, level_spelling, spelling_of, takes-spelled, level-parted}
use Rattle.funnel_model.proofs.ReadingSound.{list_of, IsRead, reads-parted}

-- the terms and factors of a level are terms and factors
pub record IsSoundLevel (level : Level) : Type 0 where
  pub terms : AreTerms (trees_of level.terms)
  pub factors : AreFactors (trees_of level.factors)

abbrev pub AreSoundLevels : List Level → Type 0
AreSoundLevels [] = Unit {0}
AreSoundLevels (level ∷ outer) = IsSoundLevel level × AreSoundLevels outer

pub record IsSound (reading : Reading) : Type 0 where
  pub inner : IsSoundLevel reading.inner
  pub outer : AreSoundLevels reading.outer

AreFactors-push : (fs : List Tree) (f : Tree) → AreFactors (trees_of fs) → IsFactor f → AreFactors (trees_of (fs ++ f ∷ []))
AreFactors-push [] f are is = (is, tt)
AreFactors-push (x ∷ fs) f are is = (are.0, AreFactors-push fs f are.1 is)

AreTerms-push : (ts : List Tree) (t : Tree) → AreTerms (trees_of ts) → IsTerm t → AreTerms (trees_of (ts ++ t ∷ []))
AreTerms-push [] t are is = (is, tt)
AreTerms-push (x ∷ ts) t are is = (are.0, AreTerms-push ts t are.1 is)

HaveTerms-push : (ts : List Tree) (t : Tree) → AreTerms (trees_of ts) → IsTerm t → HaveTerms (trees_of (ts ++ t ∷ []))
HaveTerms-push [] t are is = (is, tt)
HaveTerms-push (x ∷ ts) t are is = (are.0, AreTerms-push ts t are.1 is)

HaveFactors-some : (fs : List Tree) → AreFactors (trees_of fs) → 0 < length fs → HaveFactors (trees_of fs)
HaveFactors-some [] are any = absurd (omega arith)
HaveFactors-some (f ∷ fs) are any = are

IsFactor-signed : (m : ℕ) (f : Tree) → IsFactor f → IsFactor (signed m f)
IsFactor-signed zero f is = is
IsFactor-signed (suc m) f is = IsFactor-signed m (contrary f) is

-- the terms of a complete level are those of an expression
pub level-terms : (level : Level) → IsSoundLevel level → IsComplete level → HaveTerms (trees_of (terms_with_last level))
level-terms level sound complete =
    HaveTerms-push level.terms (every (trees_of level.factors)) sound.terms (HaveFactors-some level.factors sound.factors complete.any)

sound-with_factor : (level : Level) (f : Tree) → IsSoundLevel level → IsFactor f → IsSoundLevel (with_factor level f)
sound-with_factor level f sound is =
    record { terms = sound.terms; factors = AreFactors-push level.factors (signed level.minuses f) sound.factors (IsFactor-signed level.minuses f is) }

pub start-sound : IsSound start
start-sound = record { inner = record { terms = tt; factors = tt }; outer = tt }

closes-sound : (inner : Level) (outer : List Level) (after : Reading) → IsSoundLevel inner → AreSoundLevels outer → IsComplete inner →
    Closes inner outer after → IsSound after
closes-sound inner [] after sound sounds complete closes = absurd closes
closes-sound inner (level ∷ outer) after sound sounds complete closes =
    subst IsSound (sym closes) (record {
      inner = sound-with_factor level (some (trees_of (terms_with_last inner))) sounds.0 (level-terms inner sound complete);
      outer = sounds.1;
    })

-- what is read stays sound
pub takes-sound : (before : Reading) (token : Token) (after : Reading) → IsSound before → Takes before token after → IsSound after
takes-sound before (word bytes) after sound takes =
    subst IsSound (sym takes) (record { inner = sound-with_factor before.inner (atom bytes) sound.inner tt; outer = sound.outer })
takes-sound before minus after sound takes =
    subst IsSound (sym takes) (record { inner = record { terms = sound.inner.terms; factors = sound.inner.factors }; outer = sound.outer })
takes-sound before left after sound takes =
    subst IsSound (sym takes) (record { inner = record { terms = tt; factors = tt }; outer = (sound.inner, sound.outer) })
takes-sound before bar after sound takes =
    subst IsSound (sym takes.1) (record {
      inner = record {
        terms = AreTerms-push before.inner.terms (every (trees_of before.inner.factors)) sound.inner.terms
            (HaveFactors-some before.inner.factors sound.inner.factors takes.0.any);
        factors = tt;
      };
      outer = sound.outer;
    })
takes-sound before right after sound takes = closes-sound before.inner before.outer after sound.inner sound.outer takes.0 takes.1

pub reads-sound : (before : Reading) (ss : List Spelled) (after : Reading) → IsSound before → Reads before ss after → IsSound after
reads-sound before [] after sound reads = subst IsSound reads sound
reads-sound before (s ∷ ss) after sound reads = reads-sound reads.1 ss after (takes-sound before s.token reads.1 sound reads.2) reads.3

-- what was read has the tokens that were read
pub reads-spelled : (before : Reading) (ss : List Spelled) (after : Reading) → Reads before ss after → spelling_of after ≡ spelling_of before ++ ss
reads-spelled before [] after reads = ap spelling_of (sym reads) ∙ sym (append-nil (spelling_of before))
reads-spelled before (s ∷ ss) after reads =
    reads-spelled reads.1 ss after reads.3
    ∙ ap (λ (front : List Spelled). front ++ ss) (takes-spelled before s.token reads.1 reads.2)
    ∙ append_assoc (spelling_of before) (spell s.token (level_at before s.token) ∷ []) ss
    ∙ ap (λ (level : ℕ). spelling_of before ++ spell s.token level ∷ ss) (sym reads.0)

-- an expression that goes on from these tokens
pub record GoesOn (front : List Spelled) : Type 0 where
  pub terms : Trees
  pub rest : List Spelled
  pub is : IsExpression terms (front ++ rest)

-- a complete level can be closed, and those around it
closed : (outer : List Level) (inner : Level) → IsSound (record { inner = inner; outer = outer }) → IsComplete inner →
    GoesOn (spelling_of (record { inner = inner; outer = outer }))
closed [] inner sound complete = record {
  terms = trees_of (terms_with_last inner);
  rest = [];
  is = record { terms_of = level-terms inner sound.inner complete; spells = level-parted 0 inner complete ∙ sym (append-nil (level_spelling 0 inner)) };
}
closed (level ∷ outer) inner sound complete =
    let here : Reading = record { inner = inner; outer = level ∷ outer } in
    let after : Reading = record { inner = with_factor level (some (trees_of (terms_with_last inner))); outer = outer } in
    let takes : Takes here right after = (complete, refl) in
    let whole : GoesOn (spelling_of after) = closed outer after.inner (takes-sound here right after sound takes)
    (record { unsigned = refl; any = omega (arith, length-append level.factors (signed level.minuses (some (trees_of (terms_with_last inner))) ∷ [])) }) in
    let closing = spell right (level_at here right) in
    record {
      terms = whole.terms;
      rest = closing ∷ whole.rest;
      is = subst (λ (ss : List Spelled). IsExpression whole.terms ss)
          (ap (λ (ss : List Spelled). ss ++ whole.rest) (takes-spelled here right after takes)
          ∙ append_assoc (spelling_of here) (closing ∷ []) whole.rest) whole.is;
    }

-- what was read is the front of an expression: one more atom completes its innermost level
pub goes_on : (reading : Reading) → IsSound reading → GoesOn (spelling_of reading)
goes_on reading sound =
    let a : Token = word (97 ∷ []) in
    let after : Reading = record { inner = with_factor reading.inner (atom (97 ∷ [])); outer = reading.outer } in
    let takes : Takes reading a after = refl in
    let whole : GoesOn (spelling_of after) = closed reading.outer after.inner (takes-sound reading a after sound takes)
    (record { unsigned = refl; any = omega (arith, length-append reading.inner.factors (signed reading.inner.minuses (atom (97 ∷ [])) ∷ [])) }) in
    record {
      terms = whole.terms;
      rest = spell a (opened reading) ∷ whole.rest;
      is = subst (λ (ss : List Spelled). IsExpression whole.terms ss)
          (ap (λ (ss : List Spelled). ss ++ whole.rest) (takes-spelled reading a after takes)
          ∙ append_assoc (spelling_of reading) (spell a (opened reading) ∷ []) whole.rest) whole.is;
    }

-- tokens that were read from the start go on to an expression
pub read-goes_on : (ss : List Spelled) (reading : Reading) → Reads start ss reading → GoesOn ss
read-goes_on ss reading reads = subst GoesOn (reads-spelled start ss reading reads) (goes_on reading (reads-sound start ss reading start-sound reads))

-- and are the front of one
pub read-front : (ss : List Spelled) (reading : Reading) → Reads start ss reading → IsFront (tokens_of ss)
read-front ss reading reads =
    let whole : GoesOn ss = read-goes_on ss reading reads in
    record {
      terms = whole.terms;
      spelling = ss ++ whole.rest;
      spells = whole.is;
      rest = tokens_of whole.rest;
      begins = map-append (λ (s : Spelled). s.token) ss whole.rest;
    }

-- the tokens of an expression are read to its end
pub expression-read : (terms : Trees) (ss : List Spelled) → IsExpression terms ss → IsRead start ss (list_of terms)
expression-read terms ss is = subst (λ (xs : List Spelled). IsRead start xs (list_of terms)) is.spells (reads-parted terms [] is.terms_of)

-- the expression of all that was read
pub read-expression : (ss : List Spelled) (level : Level) → Reads start ss (record { inner = level; outer = [] }) → IsComplete level →
    IsExpression (trees_of (terms_with_last level)) ss
read-expression ss level reads complete = record {
  terms_of = level-terms level (reads-sound start ss (record { inner = level; outer = [] }) start-sound reads).inner complete;
  spells = level-parted 0 level complete ∙ reads-spelled start ss (record { inner = level; outer = [] }) reads;
}

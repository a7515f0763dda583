-- What a parser's progress becomes with the next token, and what it means where there is none that can come next.
use Rattle.std.proofs.Common.{◌≡◌, ℕ, ◌+◌, ◌≤◌, false, inl, inr, List, [], ◌∷◌, ◌++◌, length, drop, refl, sym, ap, ap₂, ◌∙◌, subst, append_assoc}
use Rattle.std.proofs.lemmas.List.{append-nil, map-append}
use Rattle.std.specs.Str.{IsCharBoundary}
use Rattle.funnel_model.specs.declared.expr.TheConstants.{MOST_OPEN}
use Rattle.funnel_model.specs.Expressions.{Tree, some, trees_of}
use Rattle.funnel_model.specs.Queries.{Token, Placed, put, Spelled, tokens, tokens_from, kinds, tokens_of, IsExpression, IsFront, AreShallow, IsQuery, IsTooDeep, IsMalformed}
use Rattle.funnel_model.specs.Readings.{Level, Reading, start, terms_with_last, IsComplete, Takes, level_at, Reads}
use Rattle.funnel_model.proofs.ReadingLemmas.{spell}
use Rattle.funnel_model.proofs.ReadingSound.{IsRead as IsReadTo, list_of, reads-append}
use Rattle.funnel_model.proofs.ReadingEnds.{GoesOn, read-goes_on, read-front, read-expression, expression-read}
use Rattle.funnel_model.proofs.ReadingOnce.{no_front, not_deep, read-whole, IsStuck}
use Rattle.bool_query.specs.declared.parser.Parser.{Parser}
use Rattle.bool_query.specs.Parsers.{IsRead, IsStuckAt, IsWhole, reading_of}
use Rattle.bool_query.specs.Progress.{HasRead}
use Rattle.bool_query.proofs.Lexing.{tokens-none}

-- levels that are few stay so with one that isn't too many
shallow-push : (ss : List Spelled) (s : Spelled) → AreShallow ss → s.level ≤ MOST_OPEN → AreShallow (ss ++ s ∷ [])
shallow-push [] s shallow low = (low, tt)
shallow-push (x ∷ ss) s shallow low = (shallow.0, shallow-push ss s shallow.1 low)

-- past a space
pub read-space : (text : List ℕ) (at next : ℕ) (parser : Parser) → HasRead text at parser → IsCharBoundary text next →
    tokens_from false at (drop at text) ≡ tokens_from false next (drop next text) → HasRead text next parser
read-space text at next parser read boundary same = record {
  boundary = boundary;
  before = read.before;
  split = read.split ∙ ap (λ (later : List Placed). read.before ++ later) same;
  spelling = read.spelling;
  reads = read.reads;
  same = read.same;
  shallow = read.shallow;
  counts = read.counts;
}

-- a token further
pub read-token : (text : List ℕ) (at next : ℕ) (token : Token) (before after : Parser) → HasRead text at before → IsRead before token after →
    IsCharBoundary text next → tokens_from false at (drop at text) ≡ put at token (tokens_from false next (drop next text)) → HasRead text next after
read-token text at next token before after read taken boundary same =
    let s : Spelled = spell token (level_at (reading_of before) token) in
    let p : Placed = record { at = at; token = token } in
    record {
      boundary = boundary;
      before = read.before ++ p ∷ [];
      split = read.split ∙ ap (λ (later : List Placed). read.before ++ later) same
          ∙ sym (append_assoc read.before (p ∷ []) (tokens_from false next (drop next text)));
      spelling = read.spelling ++ s ∷ [];
      reads = reads-append start read.spelling (reading_of before) (s ∷ []) (reading_of after) read.reads (refl, reading_of after, taken.takes, refl);
      same = map-append (λ (x : Spelled). x.token) read.spelling (s ∷ []) ∙ ap (λ (front : List Token). front ++ token ∷ []) read.same
          ∙ sym (map-append (λ (x : Placed). x.token) read.before (p ∷ []));
      shallow = shallow-push read.spelling s read.shallow taken.shallow;
      counts = taken.counts;
    }

-- the kinds of the text's tokens are those that were read and those that are left
kinds-left : (text : List ℕ) (at : ℕ) (parser : Parser) (read : HasRead text at parser) (later : List Placed) →
    tokens_from false at (drop at text) ≡ later → kinds (tokens text) ≡ tokens_of read.spelling ++ kinds later
kinds-left text at parser read later same =
    ap kinds (read.split ∙ ap (λ (rest : List Placed). read.before ++ rest) same)
    ∙ map-append (λ (p : Placed). p.token) read.before later
    ∙ ap (λ (front : List Token). front ++ kinds later) (sym read.same)

-- where reading is stuck, no token opens a 65th level
stuck-shallow : (text : List ℕ) (at : ℕ) (parser : Parser) (read : HasRead text at parser) (later : List Placed) →
    tokens_from false at (drop at text) ≡ later → IsStuck (reading_of parser) (kinds later) → (deep : ℕ) → IsTooDeep text deep → ⊥
stuck-shallow text at parser read later same stuck deep d =
    let whole : IsReadTo start (d.front ++ d.opening ∷ d.rest) (list_of d.terms) = expression-read d.terms (d.front ++ d.opening ∷ d.rest) d.spells in
    not_deep start read.spelling d.front (reading_of parser) (record { inner = whole.level; outer = [] }) d.opening d.rest (kinds later) (kinds d.after)
    read.reads read.shallow stuck whole.reads d.deep
    (sym (kinds-left text at parser read later same) ∙ ap kinds d.split
    ∙ map-append (λ (p : Placed). p.token) d.before (put deep d.token d.after)
    ∙ ap₂ (λ (before : List Token) (token : Token). before ++ token ∷ kinds d.after) (sym d.same) (sym d.opens))

-- a token that can't come next is misplaced
pub read-stuck : (text : List ℕ) (at : ℕ) (token : Token) (later : List Placed) (parser : Parser) → HasRead text at parser → IsStuckAt parser token →
    tokens_from false at (drop at text) ≡ put at token later → IsMalformed text at
read-stuck text at token later parser read stuck same = record {
  cause = inl (record {
    before = read.before;
    token = token;
    after = later;
    split = read.split ∙ ap (λ (rest : List Placed). read.before ++ rest) same;
    front = subst IsFront read.same (read-front read.spelling (reading_of parser) read.reads);
    no_front = λ front. no_front read.spelling (reading_of parser) token read.reads stuck
        (subst (λ (ts : List Token). IsFront (ts ++ token ∷ [])) (sym read.same) front);
  });
  not_deep = stuck-shallow text at parser read (put at token later) same stuck;
}

-- a token that opens a 65th level
pub read-deep : (text : List ℕ) (at : ℕ) (token : Token) (later : List Placed) (parser : Parser) (after : Reading) → HasRead text at parser →
    Takes (reading_of parser) token after → level_at (reading_of parser) token ≡ MOST_OPEN + 1 →
    tokens_from false at (drop at text) ≡ put at token later → IsTooDeep text at
read-deep text at token later parser after read takes deep same =
    let s : Spelled = spell token (level_at (reading_of parser) token) in
    let reads : Reads start (read.spelling ++ s ∷ []) after =
    reads-append start read.spelling (reading_of parser) (s ∷ []) after read.reads (refl, after, takes, refl) in
    let whole : GoesOn (read.spelling ++ s ∷ []) = read-goes_on (read.spelling ++ s ∷ []) after reads in
    record {
      before = read.before;
      token = token;
      after = later;
      split = read.split ∙ ap (λ (rest : List Placed). read.before ++ rest) same;
      terms = whole.terms;
      front = read.spelling;
      opening = s;
      rest = whole.rest;
      spells = subst (λ (ss : List Spelled). IsExpression whole.terms ss) (append_assoc read.spelling (s ∷ []) whole.rest) whole.is;
      same = read.same;
      opens = refl;
      deep = deep;
      shallow = read.shallow;
    }

-- at the end of the text no token is left
no_more : (text : List ℕ) (at : ℕ) → drop at text ≡ [] → tokens_from false at (drop at text) ≡ []
no_more text at past = ap (tokens_from false at) past ∙ tokens-none false at

-- the text ends too early where a level is open, or a factor is missing
pub read-cut : (text : List ℕ) (at : ℕ) (parser : Parser) → HasRead text at parser → at ≡ length text → drop at text ≡ [] →
    (IsWhole (reading_of parser) → ⊥) → IsMalformed text at
read-cut text at parser read is past not_whole =
    let same : tokens_from false at (drop at text) ≡ [] = no_more text at past in
    let all : kinds (tokens text) ≡ tokens_of read.spelling = kinds-left text at parser read [] same ∙ append-nil (tokens_of read.spelling) in
    record {
      cause = inr (record {
        end = is;
        front = subst IsFront (sym all) (read-front read.spelling (reading_of parser) read.reads);
        no_expression = λ terms spelling spells tokens_are.
            let whole = read-whole read.spelling (reading_of parser) read.reads terms spelling spells (tokens_are ∙ all) in
            not_whole (record {
              closed = ap (λ (r : Reading). r.outer) whole.2;
              complete = subst (λ (r : Reading). IsComplete r.inner) (sym whole.2) whole.1;
            });
      });
      not_deep = stuck-shallow text at parser read [] same tt;
    }

-- the text was read whole
pub read-query : (text : List ℕ) (at : ℕ) (parser : Parser) (expr : Tree) → HasRead text at parser → drop at text ≡ [] → IsWhole (reading_of parser) →
    expr ≡ some (trees_of (terms_with_last (reading_of parser).inner)) → IsQuery text expr
read-query text at parser expr read past whole is =
    let all : kinds (tokens text) ≡ tokens_of read.spelling = kinds-left text at parser read [] (no_more text at past) ∙ append-nil (tokens_of read.spelling) in
    let level : Level = (reading_of parser).inner in
    record {
      terms = trees_of (terms_with_last level);
      expression = is;
      spelling = read.spelling;
      spells = read-expression read.spelling level
          (subst (λ (outer : List Level). Reads start read.spelling (record { inner = level; outer = outer })) whole.closed read.reads) whole.complete;
      same = sym all;
      shallow = read.shallow;
    }

-- The bit of a shared row lies within the slice.
use Rattle.std.proofs.Common.{rules, ◌≡◌, ℕ, ◌+◌, ◌*◌, ◌%◌, ◌^◌, ◌<◌, ◌≤◌, [], get_or, ap, sym, subst, ◌∙◌, arith}
use Rattle.std.proofs.lemmas.List.{get_or_default}
use Rattle.funnel_model.specs.Sizes.{shared_rows}
use Rattle.funnel_model.specs.Treatment.{row_count_of_class}
use Rattle.funnel_model.specs.declared.config.Config.{Config}
use Rattle.funnel_model.proofs.TreatmentLemmas.{row_count-is_small}
use Rattle.term_hash.specs.Hash.{row_number}
use Rattle.row_layout.specs.Layouts.{LayoutId}
use Rattle.row_layout.specs.Rows.{rank_in_class}
use Rattle.row_layout.proofs.HashedRows.{rank-low, rank-inside, word_at, word-from_places, word-small}
use Rattle.row_layout.proofs.layout.Layout.hashed_bit.Goals as goal

pub bounds-self-inside-j : goal.bounds-self-inside-j
bounds-self-inside-j c = omega (arith, row_count-is_small c.args.self.now.config.one_in c.args.self.now.config.snr c.args.class, c.requires.j)

pub overflow_mul-result : goal.overflow_mul-result
overflow_mul-result c =
    let config = c.self.inside.config in
    let known = c.args.self.now.config in
    let places = c.args.places.now in
    let rank = get_or (get_or c.self.inside.classes.ranks c.args.class []) c.args.j 0 in
    let number = c.row-number.result in
    let same : config ≡ known = ap (λ (l : LayoutId). l.config) c.self.view_is in
    let low : rank ≤ config.max_rank = rank-low config known c.self.inside.classes c.args.class c.args.j same c.self.invariant.classes_are c.requires.class c.requires.j in
    let rows : get_or c.self.inside.rows rank c.index-self-rank.result ≡ shared_rows config rank =
    get_or_default c.self.inside.rows rank c.index-self-rank.result 0 (rank-inside c.self.inside.rows rank config.max_rank low c.self.invariant.in_range.max_rank (search rules)) ∙ c.self.invariant.rows_are rank low in
    let few : number < shared_rows known rank = subst (λ (k : Config). number < shared_rows k rank) same (subst (λ n. number < n) rows c.row-number.ensures.within) in
    let small = word-small known places rank number c.requires.places (subst (λ (k : Config). rank ≤ k.max_rank) same low) few c.requires.fits in
    let fits : number * get_or places.widths rank 0 < 2 ^ 32 = omega arith in
    search rules

pub overflow_add-result : goal.overflow_add-result
overflow_add-result c =
    let config = c.self.inside.config in
    let known = c.args.self.now.config in
    let places = c.args.places.now in
    let rank = get_or (get_or c.self.inside.classes.ranks c.args.class []) c.args.j 0 in
    let number = c.row-number.result in
    let same : config ≡ known = ap (λ (l : LayoutId). l.config) c.self.view_is in
    let low : rank ≤ config.max_rank = rank-low config known c.self.inside.classes c.args.class c.args.j same c.self.invariant.classes_are c.requires.class c.requires.j in
    let rows : get_or c.self.inside.rows rank c.index-self-rank.result ≡ shared_rows config rank =
    get_or_default c.self.inside.rows rank c.index-self-rank.result 0 (rank-inside c.self.inside.rows rank config.max_rank low c.self.invariant.in_range.max_rank (search rules)) ∙ c.self.invariant.rows_are rank low in
    let few : number < shared_rows known rank = subst (λ (k : Config). number < shared_rows k rank) same (subst (λ n. number < n) rows c.row-number.ensures.within) in
    let small : get_or places.words rank 0 + number * get_or places.widths rank 0 < 2 ^ 32 =
    word-small known places rank number c.requires.places (subst (λ (k : Config). rank ≤ k.max_rank) same low) few c.requires.fits in
    search rules

pub returns : goal.returns
returns c word is =
    let config = c.self.inside.config in
    let known = c.args.self.now.config in
    let places = c.args.places.now in
    let rank = get_or (get_or c.self.inside.classes.ranks c.args.class []) c.args.j 0 in
    let number = c.row-number.result in
    let same : config ≡ known = ap (λ (l : LayoutId). l.config) c.self.view_is in
    let low : rank ≤ config.max_rank = rank-low config known c.self.inside.classes c.args.class c.args.j same c.self.invariant.classes_are c.requires.class c.requires.j in
    let rows : get_or c.self.inside.rows rank c.index-self-rank.result ≡ shared_rows config rank =
    get_or_default c.self.inside.rows rank c.index-self-rank.result 0 (rank-inside c.self.inside.rows rank config.max_rank low c.self.invariant.in_range.max_rank (search rules)) ∙ c.self.invariant.rows_are rank low in
    let named : number ≡ row_number word c.args.j (shared_rows known rank) =
    c.row-number.ensures.exact word is ∙ ap (row_number word c.args.j) (rows ∙ ap (λ (k : Config). shared_rows k rank) same) in
    let ranked : rank ≡ rank_in_class known c.args.class c.args.j =
    c.self.invariant.classes_are.ranks_are c.args.class c.args.j c.requires.class (subst (λ (k : Config). c.args.j < row_count_of_class k.one_in k.snr c.args.class) (sym same) c.requires.j)
    ∙ ap (λ (k : Config). rank_in_class k c.args.class c.args.j) same in
    ap (λ (w : ℕ). record { word = w; bit = places.column % 64 })
    (word-from_places known places rank number c.requires.places (subst (λ (k : Config). rank ≤ k.max_rank) same low)
    ∙ ap (word_at known places rank) named
    ∙ ap (λ (r : ℕ). word_at known places r (row_number word c.args.j (shared_rows known r))) ranked)

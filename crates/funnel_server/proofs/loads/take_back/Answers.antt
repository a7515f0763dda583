use Rattle.std.proofs.Common.{rules, ◌≡◌, [], ◌∷◌, ◌++◌, List, length, reverse, sym, ap, ◌∙◌, arith, length-append}
use Rattle.engine.specs.Passes.{PassView}
use Rattle.funnel_server.specs.Parts.{LoaderState, passes_of}
use Rattle.funnel_server.proofs.LoadPasses.{one_moved}
use Rattle.funnel_server.proofs.loads.take_back.Goals as goal

pub loop-loader-preserved : goal.loop-loader-preserved
loop-loader-preserved g c =
    let loader = c.in-Some.loader in
    let pass = c.client.inside.pass in
    let passes = c.loop-loader.passes.items in
    let left = c.pop.new.self.items in
    let popped : c.loop-loader.loaders.items ≡ left ++ loader ∷ [] = c.in-Some.ensures.items in
    let pushed : c.push.new.self.items ≡ passes ++ pass ∷ [] = search rules in
    let pass_is : pass ≡ loader.pass = c.client.view_is ∙ ap (λ (l : LoaderState). l.pass) c.loader.view_is in
    let fewer = ap length popped ∙ length-append left (loader ∷ []) in
    let more = ap length pushed ∙ length-append passes (pass ∷ []) in (
      ap (λ (ps : List PassView). passes_of left ++ reverse ps) (pushed ∙ ap (λ (p : PassView). passes ++ p ∷ []) pass_is)
          ∙ sym (one_moved left loader passes)
          ∙ ap (λ (ls : List LoaderState). passes_of ls ++ reverse passes) (sym popped)
          ∙ c.loop-loader.invariant.0,
      omega (arith, fewer, more, c.push.ensures.capacity, c.loop-loader.invariant.1),
    )

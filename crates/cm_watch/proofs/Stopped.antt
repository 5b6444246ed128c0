-- Streams that were all asked to stop.
use Rattle.std.proofs.Common.{◌≡◌, ℕ, List, Option, map, refl, true, sym, ap, ◌∙◌, subst}
use Rattle.std.proofs.lemmas.List.Elements.{All-map}
use Rattle.std.proofs.lemmas.Simd.{map-map}
use Rattle.cm_stream.specs.Merging.{Fixed, MergeText, fixed, merging}
use Rattle.cm_stream.specs.Stream.{Streaming, asked_stream}
use Rattle.cm_watch.specs.Watched.{AreStopped, HaveAsked}

module _ (m : MergeText) (streams : List Streaming) (last : Option ℕ) (is : m ≡ merging (map asked_stream streams) last) where
  pub all_asked : AreStopped m.streams
  all_asked = subst (λ (x : MergeText). AreStopped x.streams) (sym is) (All-map (λ (s : Streaming). s.reader.part.asked ≡ true) asked_stream streams (λ k d below. refl))

  -- they are the streams that there were
  pub each_asked : HaveAsked streams m.streams
  each_asked = ap (λ (x : MergeText). map fixed x.streams) is ∙ map-map fixed asked_stream streams

-- and those that there were before some steps
pub asked_after : (first old now : List Streaming) → map fixed old ≡ map fixed first → HaveAsked old now → HaveAsked first now
asked_after first old now same asked =
    let by : Fixed → Fixed = λ f. record f { asked = true } in
    asked ∙ sym (map-map by fixed old) ∙ ap (map by) same ∙ map-map by fixed first

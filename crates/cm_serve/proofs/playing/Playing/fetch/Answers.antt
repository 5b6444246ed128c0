use Rattle.std.proofs.Common.{◌++◌, ℕ, List, ap, ap₂, ◌∙◌, append_assoc}
use Rattle.std.specs.Prelude.{max, min}
use Rattle.std.proofs.lemmas.Result.{IfOk-weaker}
use Rattle.cm_signal.specs.Signals.{SignalsText}
use Rattle.cm_dialogue.specs.Asked.{takes}
use Rattle.cm_serve.specs.Asking.{asked_time}
use Rattle.cm_serve.specs.Dialogue.{asked_reply}
use Rattle.cm_serve.specs.Playing.{Play}
use Rattle.cm_dialogue.specs.declared.asked.Asked.{Asked}
use Rattle.cm_serve.proofs.playing.Playing.fetch.Goals as goal

pub returns-clause-after : goal.returns-clause-after
returns-clause-after c =
    let p = c.args.self in
    let fetch = c.args.fetch.now in
    let horizon = ap (λ (s : SignalsText). s.horizon) (c.behind-self.view_is ∙ c.signals.ensures) in
    let told = c.in_ok-playing.ensures.time ∙ ap (λ (a : Asked). asked_time p.setting a p.state) c.awaits.ensures in
    let time = c.max-time.ensures ∙ ap (max fetch.time) (c.min.ensures ∙ ap₂ min horizon told) in
    let first = c.in_ok-playing.ensures.after ∙ ap (λ (a : Asked). (asked_reply p a).play) c.awaits.ensures in
    let second = c.takes.ensures ∙ ap (λ (t : ℕ). takes t fetch) time in
    IfOk-weaker c.ask.result _ _ (λ q is. is ∙ ap₂ (λ (play : Play) (a : Asked). (asked_reply play a).play) first second) c.ask.ensures.after

pub returns-clause-text : goal.returns-clause-text
returns-clause-text c =
    let p = c.args.self in
    let fetch = c.args.fetch.now in
    let horizon = ap (λ (s : SignalsText). s.horizon) (c.behind-self.view_is ∙ c.signals.ensures) in
    let told = c.in_ok-playing.ensures.time ∙ ap (λ (a : Asked). asked_time p.setting a p.state) c.awaits.ensures in
    let time = c.max-time.ensures ∙ ap (max fetch.time) (c.min.ensures ∙ ap₂ min horizon told) in
    let first = c.in_ok-playing.ensures.after ∙ ap (λ (a : Asked). (asked_reply p a).play) c.awaits.ensures in
    let second = c.takes.ensures ∙ ap (λ (t : ℕ). takes t fetch) time in
    let said = c.in_ok-playing.ensures.text ∙ ap (λ (a : Asked). c.args.text.now.items ++ (asked_reply p a).text) c.awaits.ensures in
    let then = ap₂ (λ (play : Play) (a : Asked). (asked_reply play a).text) first second in
    IfOk-weaker c.ask.result _ _ (λ q is. is ∙ ap₂ (λ (xs ys : List ℕ). xs ++ ys) said then ∙ append_assoc c.args.text.now.items _ _) c.ask.ensures.text

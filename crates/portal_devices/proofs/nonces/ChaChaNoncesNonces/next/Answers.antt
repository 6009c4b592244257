use Rattle.std.proofs.Common.{◌∙◌, ap, sym, subst, ◌<◌, ◌-◌, ◌^◌}
use Rattle.portal_devices.specs.Stream.{StreamPosition, stream_number}
use Rattle.portal_devices.proofs.Streaming.{stream_number-words}
use Rattle.portal_devices.proofs.nonces.ChaChaNoncesNonces.next.Goals as goal

pub returns-clause-number : goal.returns-clause-number
returns-clause-number c below =
    let inside = c.self.inside in
    let inside_below : inside.count < 2 ^ 64 - 1 =
    subst (λ n. n < 2 ^ 64 - 1) (sym (ap (λ (d : StreamPosition). d.count) c.self.view_is)) below in
    c.number_of_words.ensures
    ∙ stream_number-words inside.count inside.stream c.next_word-first.new.self c.next_word-second.new.self
    c.next_word-third.new.self c.next_word-fourth.new.self
    c.next_word-first.result c.next_word-second.result c.next_word-third.result c.next_word-fourth.result
    inside_below c.self.invariant.0 (c.self.invariant.1 inside_below)
    c.next_word-first.ensures c.next_word-second.ensures c.next_word-third.ensures c.next_word-fourth.ensures
    ∙ ap (λ (d : StreamPosition). stream_number d.key d.count) c.self.view_is

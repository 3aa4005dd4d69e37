use Rattle.std.proofs.Common.{[], ◌∷◌, ◌++◌, length, refl, ap, ◌∙◌, subst}
use Rattle.seat_lock.proofs.Common.{calls_of, entry, calls_in, Claimed}
use Rattle.seat_lock.proofs.Turning.{same_held, back_in_slot, noted_is, calls_grown, stays_sound, grows_sound}
use Rattle.seat_lock.proofs.lock.SeatLock.with_turn.Goals as goal

pub serve-requires-clause-serves : goal.serve-requires-clause-serves
serve-requires-clause-serves g c =
    let v = c.pass.inside.seat.me.0 in
    let drawn = c.draw-ticket.ensures.ticket in
    let turn = c.wait_turn.ensures.turn in
    let t = turn.1 in
    let out = c.take_out-value.ensures in
    let lane = c.pass.inside.lane in
    let same = same_held _ _ _ out.value (ap (λ m. m.1) t.now) in
    let is = back_in_slot v _ _ _ _ t.start t.value c.play-played.new.self lane drawn.0 turn.0 (calls_in v.claims) t.entries c.pass.inside.seat.me.1 drawn.2
    c.pass.invariant.claims t.opened t.now out.left c.put_back.ensures.value in
    record {
      start = t.start;
      value = c.play-played.new.self;
      lane = lane;
      seen = length t.entries;
      ticket = turn.0;
      calls = calls_in v.claims;
      entries = t.entries;
      is = is;
      sound = stays_sound g.B.Logged.root g.B.Logged.log g.B.Logged.spare t.start t.value _ c.play-played.new.self t.entries same t.sound
          c.play-played.ensures.root c.in_default.ensures.refused c.in_default.ensures.keeps;
    }

pub note-position-requires-clause-notes : goal.note-position-requires-clause-notes
note-position-requires-clause-notes g c =
    let v = c.pass.inside.seat.me.0 in
    let drawn = c.draw-ticket.ensures.ticket in
    let turn = c.wait_turn.ensures.turn in
    let t = turn.1 in
    let out = c.take_out-value.ensures in
    let lane = c.pass.inside.lane in
    let same = same_held _ _ _ out.value (ap (λ m. m.1) t.now) in
    let is = back_in_slot v _ _ _ _ t.start t.value c.play-played.new.self lane drawn.0 turn.0 (calls_in v.claims) t.entries c.pass.inside.seat.me.1 drawn.2
    c.pass.invariant.claims t.opened t.now out.left c.put_back.ensures.value in
    let last = entry lane c.args.call c.in-Ok.reply in
    let grown = c.in-Ok.ensures.entry ∙ ap (λ l. l ++ last ∷ []) (ap g.B.Logged.log same ∙ t.sound.logged) in
    record {
      start = t.start;
      value = c.play-played.new.self;
      last = last;
      lane = lane;
      seen = length t.entries;
      ticket = turn.0;
      calls = calls_in v.claims;
      entries = t.entries;
      is = is;
      grown = grown;
      own = refl;
      short = c.in-Ok.ensures.short;
    }

pub serve-requires-2-clause-serves : goal.serve-requires-2-clause-serves
serve-requires-2-clause-serves g c =
    let v = c.pass.inside.seat.me.0 in
    let drawn = c.draw-ticket.ensures.ticket in
    let turn = c.wait_turn.ensures.turn in
    let t = turn.1 in
    let out = c.take_out-value.ensures in
    let lane = c.pass.inside.lane in
    let same = same_held _ _ _ out.value (ap (λ m. m.1) t.now) in
    let is = back_in_slot v _ _ _ _ t.start t.value c.play-played.new.self lane drawn.0 turn.0 (calls_in v.claims) t.entries c.pass.inside.seat.me.1 drawn.2
    c.pass.invariant.claims t.opened t.now out.left c.put_back.ensures.value in
    let last = entry lane c.args.call c.in-Ok.reply in
    let grown = c.in-Ok.ensures.entry ∙ ap (λ l. l ++ last ∷ []) (ap g.B.Logged.log same ∙ t.sound.logged) in
    let noted = noted_is g.B.Logged.log t.start c.play-played.new.self _ _ lane (length t.entries) turn.0 _ (calls_in v.claims) t.entries last is
    c.note-position.ensures.noted grown in
    let entries = t.entries ++ last ∷ [] in
    record {
      start = t.start;
      value = c.play-played.new.self;
      lane = lane;
      seen = length entries;
      ticket = turn.0;
      calls = calls_of lane entries;
      entries = entries;
      is = noted.1;
      sound = grows_sound g.B.Logged.root g.B.Logged.log g.B.Logged.spare t.start t.value _ c.play-played.new.self t.entries last (g.B.Logged.light c.args.call)
          same t.sound c.play-played.ensures.root c.in-Ok.ensures.entry c.in-Ok.ensures.spends c.play-played.ensures.heavy;
    }

pub returns-clause-calls : goal.returns-clause-calls
returns-clause-calls g c =
    let v = c.pass.inside.seat.me.0 in
    let drawn = c.draw-ticket.ensures.ticket in
    let turn = c.wait_turn.ensures.turn in
    let t = turn.1 in
    let out = c.take_out-value.ensures in
    let lane = c.pass.inside.lane in
    let same = same_held _ _ _ out.value (ap (λ m. m.1) t.now) in
    let is = back_in_slot v _ _ _ _ t.start t.value c.play-played.new.self lane drawn.0 turn.0 (calls_in v.claims) t.entries c.pass.inside.seat.me.1 drawn.2
    c.pass.invariant.claims t.opened t.now out.left c.put_back.ensures.value in
    let last = entry lane c.args.call c.in-Ok.reply in
    let grown = c.in-Ok.ensures.entry ∙ ap (λ l. l ++ last ∷ []) (ap g.B.Logged.log same ∙ t.sound.logged) in
    let noted = noted_is g.B.Logged.log t.start c.play-played.new.self _ _ lane (length t.entries) turn.0 _ (calls_in v.claims) t.entries last is
    c.note-position.ensures.noted grown in
    let known = subst (Claimed t.entries) (ap (λ m. m.0.claims) drawn.2 ∙ c.pass.invariant.claims) t.claimed in
    let view = c.pass.view_is in
    (calls_grown _ _ t.start c.play-played.new.self lane turn.0 _ (calls_in v.claims) t.entries last noted c.serve-2.ensures.rests refl known.0).0
    ∙ (λ i. (view i).calls ++ (c.note-position.result, entry (view i).lane c.args.call c.in-Ok.reply) ∷ [])

pub returns-clause-seen : goal.returns-clause-seen
returns-clause-seen g c =
    let v = c.pass.inside.seat.me.0 in
    let drawn = c.draw-ticket.ensures.ticket in
    let turn = c.wait_turn.ensures.turn in
    let t = turn.1 in
    let out = c.take_out-value.ensures in
    let lane = c.pass.inside.lane in
    let same = same_held _ _ _ out.value (ap (λ m. m.1) t.now) in
    let is = back_in_slot v _ _ _ _ t.start t.value c.play-played.new.self lane drawn.0 turn.0 (calls_in v.claims) t.entries c.pass.inside.seat.me.1 drawn.2
    c.pass.invariant.claims t.opened t.now out.left c.put_back.ensures.value in
    let last = entry lane c.args.call c.in-Ok.reply in
    let grown = c.in-Ok.ensures.entry ∙ ap (λ l. l ++ last ∷ []) (ap g.B.Logged.log same ∙ t.sound.logged) in
    let noted = noted_is g.B.Logged.log t.start c.play-played.new.self _ _ lane (length t.entries) turn.0 _ (calls_in v.claims) t.entries last is
    c.note-position.ensures.noted grown in
    let known = subst (Claimed t.entries) (ap (λ m. m.0.claims) drawn.2 ∙ c.pass.invariant.claims) t.claimed in
    (calls_grown _ _ t.start c.play-played.new.self lane turn.0 _ (calls_in v.claims) t.entries last noted c.serve-2.ensures.rests refl known.0).1

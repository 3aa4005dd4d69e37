use Rattle.std.proofs.Common.{◌≡◌, ℕ, ◌+◌, true, false, List, [], ◌∷◌, ◌++◌, length, filter, sym, ap, ◌∙◌, arith}
use Rattle.dispatch_engine.proofs.Common.{range_with_len, length_push, Rider, request_at, is_promised_to}
use Rattle.dispatch_engine.proofs.lemmas.limits.Promises.{filter_range_skips, filter_range_takes, filter_range_all, request_read}
use Rattle.dispatch_engine.proofs.limits.promised.riders_promised_to.Goals as goal

pub loop-number-preserved-then-not-names : goal.loop-number-preserved-then-not-names
loop-number-preserved-then-not-names c =
    let requests = c.args.requests.now in let id = c.args.vehicle in let n = c.loop-number.number in
    let read = request_read requests n c.index-requests-number.result (omega arith) c.index-requests-number.is in
    let other : is_promised_to id (request_at requests n) ≡ false = ap (λ (x : Rider). is_promised_to id x) (sym read) ∙ sym c.names.ensures ∙
    c.if-not-names.true in
    record {
      so_far = c.loop-number.invariant.so_far ∙ sym (filter_range_skips (λ k. is_promised_to id (request_at requests k)) n other);
      few = c.loop-number.invariant.few;
    }

pub returns-then-len-most : goal.returns-then-len-most
returns-then-len-most c =
    let requests = c.args.requests.now in let id = c.args.vehicle in let n = c.loop-number.number in
    let read = request_read requests n c.index-requests-number.result (omega arith) c.index-requests-number.is in
    let own : is_promised_to id (request_at requests n) ≡ true = ap (λ (x : Rider). is_promised_to id x) (sym read) ∙ sym c.names.ensures ∙
    c.if-not-names.false in
    let one_more = ap length (filter_range_takes (λ k. is_promised_to id (request_at requests k)) n own) in
    let pushed = length_push (filter (λ k. is_promised_to id (request_at requests k)) (range_with_len 0 n)) n in
    let so_far = ap length c.loop-number.invariant.so_far in
    let all = filter_range_all (λ k. is_promised_to id (request_at requests k)) (n + 1) (length requests) (omega arith) in
    let counted = c.len.ensures.value in let over = c.if-len-most.true in
    omega arith

pub loop-number-preserved : goal.loop-number-preserved
loop-number-preserved c =
    let requests = c.args.requests.now in let id = c.args.vehicle in let n = c.loop-number.number in
    let read = request_read requests n c.index-requests-number.result (omega arith) c.index-requests-number.is in
    let own : is_promised_to id (request_at requests n) ≡ true = ap (λ (x : Rider). is_promised_to id x) (sym read) ∙ sym c.names.ensures ∙
    c.if-not-names.false in
    record {
      so_far = c.push.ensures.items ∙ ap (λ (v : List ℕ). v ++ n ∷ []) c.loop-number.invariant.so_far ∙
          sym (filter_range_takes (λ k. is_promised_to id (request_at requests k)) n own);
      few = (let pushed = c.push.ensures.len in let counted = c.len.ensures.value in let under = c.if-len-most.false in omega arith);
    }

use Rattle.std.proofs.Common.{◌≡◌, ℕ, ◌<◌, List, length, map, get_or, sym, ap, ◌∙◌, subst, arith, All}
use Rattle.stop_orders.proofs.Common.{get_or-map, length-map, no_label, IsLabelPlaced, false≢true, travel_time}
use Rattle.stop_orders.specs.declared.search.label_store.Entry.{Entry}
use Rattle.stop_orders.specs.work.search.LabelStore.{Dominates}
use Rattle.stop_orders.proofs.search.label_store.LabelStore.dominates.Goals as goal

-- the label of an entry is among the labels
label_at : (entries : List Entry) (at : ℕ) (entry : Entry) → at < length entries → entry ≡ get_or entries at entry →
    get_or (map (λ e. e.label) entries) at no_label ≡ entry.label
label_at entries at entry h read = get_or-map (λ e. e.label) entries at entry no_label h ∙ ap (λ e. e.label) (sym read)

placed_at : (points : ℕ) (entries : List Entry) (at : ℕ) (entry : Entry) → at < length entries → entry ≡ get_or entries at entry →
    All (IsLabelPlaced points) (map (λ e. e.label) entries) → IsLabelPlaced points entry.label
placed_at points entries at entry h read all = subst (λ label. IsLabelPlaced points label) (label_at entries at entry h read)
    (all at no_label (subst (λ n. at < n) (sym (length-map entries (λ e. e.label))) h))

pub dominates-requires-clause-kept : goal.dominates-requires-clause-kept
dominates-requires-clause-kept c = placed_at _ c.args.self.now.entries.items c.loop-entry.at c.index.result.now (omega (arith, c.args.self.now.entries.ok.0))
    c.index.ensures c.requires.placed

pub returns-then-at-len : goal.returns-then-at-len
returns-then-at-len c = λ f. absurd (false≢true f)

pub returns-then-dominates : goal.returns-then-dominates
returns-then-dominates c =
    let entries = c.args.self.now.entries.items in
    let at = c.loop-entry.at in
    let within : at < length entries = omega (arith, c.if-at-len.false, c.len.ensures, c.args.self.now.entries.ok.0) in
    let here = subst (λ l. Dominates (travel_time c.args.times.now) l c.args.label.now) (sym (label_at entries at c.index.result.now within c.index.ensures))
    (c.dominates.ensures c.if-dominates.true) in
    λ _. (at, subst (λ n. at < n) (sym (length-map entries (λ e. e.label))) within, here)

pub returns : goal.returns
returns c = λ f. absurd (false≢true f)

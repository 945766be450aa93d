use Rattle.std.proofs.Common.{rules, ◌≡◌, ◌∙◌, ap, ◌-◌, ◌≤◌, ◌<◌, ◌++◌, ◌∷◌, [], ℕ, List, drop, false, true, length, get_or, arith, sym, take}
use Rattle.std.proofs.lemmas.List.{get_or_read, length-map, map-append, nil_from_length, take_all}
use Rattle.al_graph.specs.Graphs.{edges_of}
use Rattle.al_graph.specs.Private.Finishing.{IsSearch, cost, frame_of, frames_of}
use Rattle.al_graph.specs.Private.Marks.{Marked}
use Rattle.al_graph.specs.declared.finishing.Frame.{Frame}
use Rattle.al_graph.proofs.SearchLemmas.{edge_next, search_finish, search_pass, step_enter, step_inside, step_start}
use Rattle.al_graph.proofs.finishing.finish_from.Goals as goal

pub loop-frame-init : goal.loop-frame-init
loop-frame-init c =
    let size : length c.args.seen.now.items ≡ length (edges_of c.args.graph.now) = c.requires.search.begun.size in
    let nodes : length (edges_of c.args.graph.now) ≡ length c.args.graph.now = length-map c.args.graph.now _ in
    let below = c.requires.from_in in
    let fresh : get_or c.args.seen.now.items c.args.from false ≡ false =
    sym (get_or_read c.args.seen.now.items c.args.from c.index.result.now (omega (arith, below, size, nodes)) c.index.ensures false) ∙ c.if-index.false in
    let none : frames_of c.args.frames.now.items ≡ [] = ap frames_of c.requires.empty in
    let s = step_start (edges_of c.args.graph.now) c.args.seen.now.items c.enter.new.seen.items (frames_of c.args.frames.now.items)
    (frames_of c.enter.new.frames.items) c.args.order.now.items c.args.from
    (omega (arith, below, nodes)) fresh c.in_ok-enter.ensures.seen none c.in_ok-enter.ensures.frames c.requires.search in
    record { search = s.0; kept = s.1; from_seen = s.2 }

-- the successors that a node still has, without the first
abbrev later : Frame → List ℕ
later f = take (length f.rest.now - 1) (drop 1 f.rest.now)

first_and_rest : (xs : List ℕ) → 1 ≤ length xs → xs ≡ get_or xs 0 0 ∷ take (length xs - 1) (drop 1 xs)
first_and_rest [] h = absurd (omega (arith, h))
first_and_rest (x ∷ xs) h = ap (λ l. x ∷ l) (sym (take_all (length (x ∷ xs) - 1) xs (omega arith)))

-- the stack from which a frame with a next successor was taken
stack : (frames others : List Frame) (f : Frame) → frames ≡ others ++ f ∷ [] → 1 ≤ length f.rest.now →
    frames_of frames ≡ frames_of others ++ (f.node, get_or f.rest.now 0 0 ∷ later f) ∷ []
stack frames others f popped some =
    ap frames_of popped ∙ map-append frame_of others (f ∷ []) ∙ ap (λ l. frames_of others ++ (f.node, l) ∷ []) (first_and_rest f.rest.now some)

pub loop-frame-preserved-in_default-rest : goal.loop-frame-preserved-in_default-rest
loop-frame-preserved-in_default-rest c =
    let f = c.in-Some.frame in
    let none : f.rest.now ≡ [] = nil_from_length f.rest.now (omega (arith, c.in_default-rest.len_below)) in
    let was : frames_of c.loop-frame.frames.items ≡ frames_of c.pop.new.self.items ++ (f.node, []) ∷ [] =
    ap frames_of c.in-Some.ensures.items ∙ map-append frame_of c.pop.new.self.items (f ∷ []) ∙ ap (λ l. frames_of c.pop.new.self.items ++ (f.node, l) ∷ []) none in
    let items : c.push.new.self.items ≡ c.loop-frame.order.items ++ f.node ∷ [] = search rules in
    record {
      search = rw items (search_finish (edges_of c.args.graph.now) c.loop-frame.seen.items (frames_of c.pop.new.self.items) c.loop-frame.order.items
          f.node (rw was at c.loop-frame.invariant.search));
      kept = c.loop-frame.invariant.kept;
      from_seen = c.loop-frame.invariant.from_seen;
    }

pub index-requires-in-Some : goal.index-requires-in-Some
index-requires-in-Some c =
    let f = c.in-Some.frame in
    let was = stack _ _ f c.in-Some.ensures.items c.in-len1-up.len_at_least in
    let inside = step_inside (edges_of c.args.graph.now) c.loop-frame.seen.items (frames_of c.pop.new.self.items) c.loop-frame.order.items
    f.node (get_or f.rest.now 0 0) _ (later f) (length-map c.args.graph.now _) c.requires.edges_in (rw was at c.loop-frame.invariant.search) in
    omega (arith, inside.1)

pub loop-frame-preserved-then-index-2 : goal.loop-frame-preserved-then-index-2
loop-frame-preserved-then-index-2 c =
    let f = c.in-Some.frame in
    let next = get_or f.rest.now 0 0 in
    let search = rw (stack _ _ f c.in-Some.ensures.items c.in-len1-up.len_at_least) at c.loop-frame.invariant.search in
    let inside = step_inside (edges_of c.args.graph.now) c.loop-frame.seen.items (frames_of c.pop.new.self.items) c.loop-frame.order.items
    f.node next _ (later f) (length-map c.args.graph.now _) c.requires.edges_in search in
    let pushed : frames_of c.push-in-Some.new.self.items ≡ frames_of c.pop.new.self.items ++ (f.node, later f) ∷ [] =
    ap frames_of c.in_ok-push-2.ensures.items ∙ map-append frame_of c.pop.new.self.items _ in
    let marked : get_or c.loop-frame.seen.items next false ≡ true =
    sym (get_or_read c.loop-frame.seen.items next c.index-in-Some.result.now inside.1 c.index-in-Some.ensures false) ∙ c.if-index-2.true in
    record {
      search = rw pushed (search_pass (edges_of c.args.graph.now) c.loop-frame.seen.items (frames_of c.pop.new.self.items) c.loop-frame.order.items
          (later f) f.node next marked search);
      kept = c.loop-frame.invariant.kept;
      from_seen = c.loop-frame.invariant.from_seen;
    }

pub enter-requires-in-Some-clause-node_in : goal.enter-requires-in-Some-clause-node_in
enter-requires-in-Some-clause-node_in c =
    let f = c.in-Some.frame in
    let was = stack _ _ f c.in-Some.ensures.items c.in-len1-up.len_at_least in
    c.requires.edges_in f.node (get_or f.rest.now 0 0)
    (edge_next (edges_of c.args.graph.now) c.loop-frame.seen.items (frames_of c.pop.new.self.items) c.loop-frame.order.items
    (later f) f.node (get_or f.rest.now 0 0) (rw was at c.loop-frame.invariant.search))

-- what entering the next successor makes of the search
entered : (c : goal.In_ok-enter-2) → let f = c.in-Some.frame in
    IsSearch (edges_of c.args.graph.now) c.enter-in-Some.new.seen.items (frames_of c.enter-in-Some.new.frames.items) c.loop-frame.order.items
    × (cost (edges_of c.args.graph.now) c.enter-in-Some.new.seen.items (frames_of c.enter-in-Some.new.frames.items)
    < cost (edges_of c.args.graph.now) c.loop-frame.seen.items (frames_of c.pop.new.self.items ++ (f.node, get_or f.rest.now 0 0 ∷ later f) ∷ []))
    × ((k : ℕ) → Marked c.loop-frame.seen.items k → Marked c.enter-in-Some.new.seen.items k)
entered c =
    let f = c.in-Some.frame in
    let next = get_or f.rest.now 0 0 in
    let search = rw (stack _ _ f c.in-Some.ensures.items c.in-len1-up.len_at_least) at c.loop-frame.invariant.search in
    let inside = step_inside (edges_of c.args.graph.now) c.loop-frame.seen.items (frames_of c.pop.new.self.items) c.loop-frame.order.items
    f.node next _ (later f) (length-map c.args.graph.now _) c.requires.edges_in search in
    let pushed : frames_of c.push-in-Some.new.self.items ≡ frames_of c.pop.new.self.items ++ (f.node, later f) ∷ [] =
    ap frames_of c.in_ok-push-2.ensures.items ∙ map-append frame_of c.pop.new.self.items _ in
    let fresh : get_or c.loop-frame.seen.items next false ≡ false =
    sym (get_or_read c.loop-frame.seen.items next c.index-in-Some.result.now inside.1 c.index-in-Some.ensures false) ∙ c.if-index-2.false in
    step_enter (edges_of c.args.graph.now) c.loop-frame.seen.items c.enter-in-Some.new.seen.items (frames_of c.pop.new.self.items)
    (frames_of c.push-in-Some.new.self.items) (frames_of c.enter-in-Some.new.frames.items) c.loop-frame.order.items f.node next (later f)
    pushed inside.0 fresh c.in_ok-enter-2.ensures.seen c.in_ok-enter-2.ensures.frames search

pub loop-frame-smaller : goal.loop-frame-smaller
loop-frame-smaller c = rw (stack _ _ c.in-Some.frame c.in-Some.ensures.items c.in-len1-up.len_at_least) (entered c).1

pub loop-frame-preserved : goal.loop-frame-preserved
loop-frame-preserved c =
    let s = entered c in
    record { search = s.0; kept = λ k h. s.2 k (c.loop-frame.invariant.kept k h); from_seen = s.2 c.args.from c.loop-frame.invariant.from_seen }

pub returns-clause-emptied : goal.returns-clause-emptied
returns-clause-emptied c = nil_from_length c.pop.new.self.items (search rules)

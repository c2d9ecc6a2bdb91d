-- Those that were moved are the first.
use Rattle.std.proofs.Common.{◌++◌, ◌||◌, ◌∙◌, ◌≡◌, ◌≤◌, ap, arith, is_some, length, rules, sym, take, vec_len}
use Rattle.thread_pool.specs.{Books, PoolStateValue, books, deque_len, fitting, is_calling}
use Rattle.thread_pool.proofs.Words.{length-take-le, take-append-drop}
use Rattle.thread_pool.proofs.state.PoolState.take_all.Goals as goal

pub returns : goal.returns
returns g c =
    let items = c.args.items.now.items in
    let count = c.fitting-count.result in
    let all : c.len.result ≡ length items = let long = c.args.items.now.ok.0 in omega (arith, c.len.ensures) in
    let short : count ≤ length items = omega (arith, c.fitting-count.ensures.items) in
    let same = ap (λ (v : PoolStateValue _). v.books) c.self.view_is ∙ c.fitting-count.ensures.same in
    let long : deque_len c.move_first.new.queue ≡ length c.move_first.new.queue.items = let is = c.move_first.new.queue.ok.0 in omega arith in
    let inside = c.self.inside in
    let resting = vec_len c.call.new.resting in
    record {
      taken = take count items;
      are = sym (ap (λ xs. take count items ++ xs) c.move_first.ensures.left ∙ take-append-drop count items);
      none = λ closed. ap (λ n. take n items) (c.fitting-count.ensures.none closed);
      for_threads = λ yet. omega (arith, length-take-le count items short, c.fitting-count.ensures.threads yet);
      all = λ yet room. length-take-le count items short ∙ (c.fitting-count.ensures.all yet (rw all room) ∙ ap (λ n. fitting n c.args.self.now.books) all);
      calls = c.call.ensures.calls ∙ (ap (λ n. is_calling c.self.inside.called n (vec_len c.self.inside.resting)) long ∙ ap (λ (b : Books _). is_calling b.called (length c.move_first.new.queue.items) b.resting) same);
      resting = c.call.ensures.left ∙ ap (λ b. b.resting) same;
      became =
          ap (λ q. books inside.keep resting q c.call.new.called inside.wanted (vec_len inside.made) inside.unmade inside.ended.items inside.closed) c.move_first.ensures.moved
          ∙ (ap (λ b. books inside.keep resting (inside.queue.items ++ take count items) b inside.wanted (vec_len inside.made) inside.unmade inside.ended.items inside.closed) c.call.ensures.called
          ∙ ap (λ (b : Books _). record b { queue = b.queue ++ take count items; called = b.called || is_some c.call.result; resting = resting }) same);
    }

use Rattle.std.proofs.Common.{◌≡◌, ℕ, ◌+◌, ◌<◌, true, false, get_or, Some, None, sym, ap, ◌∙◌, subst, arith, below_more}
use Rattle.std.proofs.lemmas.List.{get_or-take}
use Rattle.lmcut.specs.Drawn.{zone_of, marked}
use Rattle.lmcut.specs.Spreading.{Stepped, Joined, joins, Closed}
use Rattle.lmcut.proofs.Closing.{unchanged, stepped_on, stepped_like}
use Rattle.lmcut.proofs.Starting.{JoinedAll, joined_not, joined_added, joined_closed}
use Rattle.lmcut.proofs.graph.Graph.start_pass.Goals as goal
use Rattle.lmcut.proofs.graph.Graph.start_pass.Goals.{then-starts, else-starts}

pub loop-action-preserved : goal.loop-action-preserved
loop-action-preserved c =
    let q = c.args.self.now.asked.question.now in
    let ss = c.args.self.now.sources.now in
    let near = c.args.near in
    let goals = zone_of q true near in
    let i = c.loop-action.action in
    let w = c.loop-action.zone in
    let nodes = c.args.self.now.asked.fits.some_nodes in
    let inside : i < q.actions = omega arith in
    let on : (v : ℕ) → Stepped q false (joins q ss goals) (Joined q ss goals i) w v → Stepped q false (joins q ss goals) (JoinedAll q ss goals (i + 1)) c.args.from v
    = λ v s. stepped_on q false (joins q ss goals) (JoinedAll q ss goals i) (Joined q ss goals i) (JoinedAll q ss goals (i + 1)) c.args.from w v c.loop-action.invariant s (λ l m. below_more (λ a. Joined q ss goals a (zone_of q false v)) i l m) in
    let source : (n : ℕ) → get_or ss i None ≡ Some n → n + 1 < q.nodes = λ n e. c.args.self.now.placed i n inside e in
    let read = ap (marked w) (sym (get_or-take q.actions ss i None inside)) in
    elim c.if-starts.branch [
      | then-starts v ↦ subst (Stepped q false (joins q ss goals) (JoinedAll q ss goals (i + 1)) c.args.from) (sym v.zone-is) (on _ (joined_added q ss near i w nodes inside source (read ∙ sym v.if-starts.ensures)))
      | else-starts v ↦ subst (Stepped q false (joins q ss goals) (JoinedAll q ss goals (i + 1)) c.args.from) (sym v.zone-is) (on w (unchanged q false (joins q ss goals) (Joined q ss goals i) w (joined_not q ss near i w nodes inside source (read ∙ sym v.if-starts.ensures))))
    ]

pub returns : goal.returns
returns c =
    let q = c.args.self.now.asked.question.now in
    let ss = c.args.self.now.sources.now in
    let goals = zone_of q true c.args.near in
    let i = c.loop-action.action in
    stepped_like q false (joins q ss goals) (JoinedAll q ss goals i) (Closed (joins q ss goals) q.nodes) c.args.from c.loop-action.zone (joined_closed q ss goals i (zone_of q false c.loop-action.zone) (omega arith)) c.loop-action.invariant

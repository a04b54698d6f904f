use Rattle.script.specs.Unread.{unread}
use Rattle.script.proofs.Lines.{fills}
use Rattle.script.proofs.directive.read_text.Goals as goal

pub returns-in_ok-read_head-in-head : goal.returns-in_ok-read_head-in-head
returns-in_ok-read_head-in-head g c =
    fills c.args.text.now _ c.in-Some.name.now (unread c.word.new.self) _ c.in_ok-read_head-in-head.field-0 c.new-words.ensures c.in-Some.ensures c.in-head.is c.in_ok-read_head-in-head.ensures

pub returns-in_ok-read_quantity-in-q : goal.returns-in_ok-read_quantity-in-q
returns-in_ok-read_quantity-in-q g c =
    fills c.args.text.now _ c.in-Some.name.now (unread c.word.new.self) _ c.in_ok-read_quantity-in-q.field-0 c.new-words.ensures c.in-Some.ensures c.in-q.is c.in_ok-read_quantity-in-q.ensures

pub returns-in_ok-read_condition-in-c : goal.returns-in_ok-read_condition-in-c
returns-in_ok-read_condition-in-c g c =
    fills c.args.text.now _ c.in-Some.name.now (unread c.word.new.self) _ c.in_ok-read_condition-in-c.field-0 c.new-words.ensures c.in-Some.ensures c.in-c.is c.in_ok-read_condition-in-c.ensures

pub returns-in_ok-read_move-in-m : goal.returns-in_ok-read_move-in-m
returns-in_ok-read_move-in-m g c =
    fills c.args.text.now _ c.in-Some.name.now (unread c.word.new.self) _ c.in_ok-read_move-in-m.field-0 c.new-words.ensures c.in-Some.ensures c.in-m.is c.in_ok-read_move-in-m.ensures

pub returns-in_ok-read_link-in-l : goal.returns-in_ok-read_link-in-l
returns-in_ok-read_link-in-l g c =
    fills c.args.text.now _ c.in-Some.name.now (unread c.word.new.self) _ c.in_ok-read_link-in-l.field-0 c.new-words.ensures c.in-Some.ensures c.in-l.is c.in_ok-read_link-in-l.ensures

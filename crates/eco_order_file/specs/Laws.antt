-- What holds of orders and what is written for them.
use Rattle.std.specs.Prelude.{◌≡◌, None, Ok}
use Rattle.eco_order_file.specs.Orders.{Order, IsInForm}
use Rattle.eco_order_file.specs.Documents.{order}
use Rattle.eco_order_file.specs.OrderValues.{order_value}
use Rattle.eco_order_file.specs.Reading.{keeping}
use Rattle.eco_order_file.specs.Rules.{broken_alone}
use Rattle.serde_json.specs.Data.{Data}

-- What is written for an order in form that keeps rules 3 to 5 says that order.
abbrev pub WrittenIsRead : Type 0
WrittenIsRead = (o : Order) → IsInForm o → broken_alone o ≡ None → keeping (order (order_value o)) ≡ Ok o

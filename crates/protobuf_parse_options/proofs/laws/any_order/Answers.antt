use Rattle.protobuf_parse_options.proofs.DescriptorOrders as orders
use Rattle.protobuf_parse_options.proofs.laws.any_order.Goals as goal

pub returns : goal.returns
returns c = orders.order_makes_no_difference

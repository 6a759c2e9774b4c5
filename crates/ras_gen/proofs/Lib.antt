pub mod DemoLines

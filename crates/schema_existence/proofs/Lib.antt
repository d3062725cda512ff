mod Carried
mod Files
mod Keys
mod Rows
mod Schema
mod Shapes
mod Types
